-- The proof of `read_both` in src/capture.rt.
use Rattle.std.proofs.Common.{arith}
use Rattle.dvd_capture.proofs.ReadParts.{both_taken}
use Rattle.dvd_capture.proofs.capture.read_both.Goals as goal

pub returns-clause-taken : goal.returns-clause-taken
returns-clause-taken g c =
    both_taken _ _ _ c.read_whole.new.buf c.read_whole-2.new.buf c.in_ok-count.count c.in_ok-read_whole.field-0 c.in_ok-count.ensures.bound.0 (omega arith)
    c.in_ok-count.ensures.taken c.in_ok-read_whole.ensures.taken
