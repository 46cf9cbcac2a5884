-- What each iteration of the loop in `take_runs` keeps.
use Rattle.std.proofs.Common.{◌≡◌, ◌*◌, ◌≤◌, ◌++◌, ℕ, List, length, take}
use Rattle.dvd_capture.specs.Listed.{mark_of}
use Rattle.dvd_capture.specs.Inner.Listing.{HasRuns}
use Rattle.dvd_capture.specs.Parts.{marks_rows}
use Rattle.dvd_capture.proofs.runs.take_runs.Given as goal

abbrev pub invariant-loop-i : goal.invariant-loop-i
invariant-loop-i l = record {
  count : l.taken.runs ≡ l.i;
  runs : (head : List ℕ) (count : ℕ) → length l.fields ≤ 4 * count
      → HasRuns (head ++ take (4 * l.fn.taken.runs) l.fields) count l.fn.taken.runs l.fn.taken.end (mark_of (marks_rows l.fn.marks))
      → HasRuns (head ++ take (4 * l.i) l.fields) count l.i l.taken.end (mark_of (marks_rows l.marks));
}
