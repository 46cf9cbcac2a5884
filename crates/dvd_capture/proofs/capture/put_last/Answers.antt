-- The proof of `put_last` in src/capture.rt.
use Rattle.std.proofs.Common.{◌≡◌, ◌++◌, subst, arith}
use Rattle.dvd_capture.specs.Inner.Putting.{ArePut}
use Rattle.dvd_capture.specs.Parts.{marks_rows, received_rows}
use Rattle.dvd_capture.specs.declared.form.Form.TheVariants.{Marked}
use Rattle.dvd_capture.proofs.Fetching.{row_put}
use Rattle.dvd_capture.proofs.MarkedPlaces.{last_record}
use Rattle.dvd_capture.proofs.WorkParts.{marks-height, rows-height}
use Rattle.dvd_capture.proofs.capture.put_last.Goals as goal

pub loop-m-init : goal.loop-m-init
loop-m-init c = λ first size put. put

pub loop-m-preserved : goal.loop-m-preserved
loop-m-preserved c = λ first size put.
    rw (c.put_record.ensures.received, c.put_record.ensures.marks)
    (row_put Marked (first ++ c.args.last.now) _ (received_rows c.loop-m.received) (marks_rows c.loop-m.marks) c.loop-m.m
    (rows-height c.loop-m.received) (marks-height c.loop-m.marks) (omega arith)
    (last_record first c.args.last.now c.loop-m.m size (omega arith)) (c.loop-m.invariant first size put))

pub returns : goal.returns
returns c = λ first size put.
    let all : c.loop-m.m ≡ 208 = omega arith in
    subst (ArePut Marked (first ++ c.args.last.now) (received_rows c.loop-m.received) (marks_rows c.loop-m.marks)) all
    (c.loop-m.invariant first size put)
