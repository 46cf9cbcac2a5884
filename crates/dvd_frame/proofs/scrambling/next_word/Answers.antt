-- The proof of `next_word` in src/scrambling.rt.
use Rattle.std.proofs.Common.{arith}
use Rattle.dvd_frame.proofs.KeyWords.{keys_joined}
use Rattle.dvd_frame.proofs.scrambling.next_word.Goals as goal

pub returns-clause-word : goal.returns-clause-word
returns-clause-word c = λ preset k is_there.
    keys_joined preset k c.from_be_bytes.result c.loop-byte.byte-items (omega arith)
    (λ j below. c.loop-byte.invariant.read preset k j is_there (omega arith)) c.from_be_bytes.ensures
