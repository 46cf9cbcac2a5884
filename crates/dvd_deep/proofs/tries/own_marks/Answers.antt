-- The proof of `own_marks` in src/tries.rt.
use Rattle.std.proofs.Common.{arith}
use Rattle.dvd_capture.specs.Parts.{marks_of_rows}
use Rattle.dvd_deep.proofs.ColumnStep.{marks-read}
use Rattle.dvd_deep.proofs.tries.own_marks.Goals as goal

pub returns : goal.returns
returns c =
    marks-read (marks_of_rows c.args.marks.now) c.args.j c.loop-i.own c.loop-i.invariant.size
    (λ k below. c.loop-i.invariant.read k (omega arith))
