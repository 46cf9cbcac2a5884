-- The proof of `hold_columns` in src/kept.rt.
use Rattle.dvd_read.proofs.Holding.{filled-held}
use Rattle.dvd_read.proofs.kept.hold_columns.Goals as goal

pub returns-then-are_held-clause-held : goal.returns-then-are_held-clause-held
returns-then-are_held-clause-held c = λ _.
    filled-held c.args.answers.now c.fill_failed.new.answers c.args.columns.now c.requires.rows c.requires.columns c.fill_failed.ensures.same
    (c.are_kept-are_held.ensures.0 c.if-are_held.true) c.fill_failed.ensures.failed
