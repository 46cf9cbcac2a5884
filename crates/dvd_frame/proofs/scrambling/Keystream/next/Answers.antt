-- The proof of `Keystream::next` in src/scrambling.rt.
use Rattle.std.proofs.Common.{◌∙◌}
use Rattle.std.proofs.lemmas.Nat.{and_mask}
use Rattle.dvd_frame.proofs.Sequences.{byte_shown}
use Rattle.dvd_frame.proofs.scrambling.Keystream.next.Goals as goal

pub returns-clause-byte : goal.returns-clause-byte
returns-clause-byte c = λ preset k shows.
    and_mask c.self.inside.register 8 ∙ byte_shown preset k c.self.inside.register (c.self.view_is ∙ shows)
