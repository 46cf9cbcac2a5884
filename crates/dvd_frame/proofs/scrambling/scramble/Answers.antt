-- The proof of `scramble` in src/scrambling.rt.
use Rattle.std.proofs.Common.{ap, ◌∙◌}
use Rattle.dvd_frame.specs.Scrambling.{masked}
use Rattle.dvd_frame.proofs.Masking.{masked_twice}
use Rattle.dvd_frame.proofs.scrambling.scramble.Goals as goal

pub returns-clause-undone : goal.returns-clause-undone
returns-clause-undone c =
    ap (masked c.args.id c.args.rule) c.scramble_slice.ensures ∙ masked_twice c.args.id c.args.rule c.args.main.now
