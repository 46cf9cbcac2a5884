-- What each iteration of the loop in `put_last` keeps.
use Rattle.std.proofs.Common.{◌≡◌, ℕ, List, ◌++◌, length}
use Rattle.dvd_capture.specs.Parts.{marks_rows, received_rows}
use Rattle.dvd_capture.specs.Inner.Putting.{ArePut}
use Rattle.dvd_capture.specs.declared.form.Form.TheVariants.{Marked}
use Rattle.dvd_capture.proofs.capture.put_last.Given as goal

-- the records before are put, whatever the first ones are
abbrev pub invariant-loop-m : goal.invariant-loop-m
invariant-loop-m l = (first : List ℕ) → length first ≡ 34_645
    → ArePut Marked (first ++ l.last) (received_rows l.initial.received) (marks_rows l.initial.marks) 169
    → ArePut Marked (first ++ l.last) (received_rows l.received) (marks_rows l.marks) l.m
