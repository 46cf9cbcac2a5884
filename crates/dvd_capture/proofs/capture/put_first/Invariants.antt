-- What each iteration of the loop in `put_first` keeps.
use Rattle.std.proofs.Common.{◌≡◌, ℕ, ◌<◌, ◌≤◌, List, ◌++◌, take}
use Rattle.dvd_capture.specs.Captured.{record_of}
use Rattle.dvd_capture.specs.Parts.{marks_rows, received_bytes, received_rows}
use Rattle.dvd_capture.specs.Inner.Putting.{ArePut}
use Rattle.dvd_capture.specs.declared.form.Form.TheVariants.{Marked}
use Rattle.dvd_capture.proofs.capture.put_first.Given as goal

-- the records before are put, and those from this one on are as they came
abbrev pub invariant-loop-m : goal.invariant-loop-m
invariant-loop-m l = record {
  put : (last : List ℕ) → ArePut Marked (take 34_645 (received_bytes l.initial.received) ++ last) (received_rows l.received) (marks_rows l.marks) l.m;
  rest : (k : ℕ) → l.m ≤ k → k < 169 → record_of Marked (received_bytes l.received) k ≡ record_of Marked (received_bytes l.initial.received) k;
}
