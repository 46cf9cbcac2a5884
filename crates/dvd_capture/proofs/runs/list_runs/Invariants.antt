-- What each iteration of the loop in `list_runs` keeps.
use Rattle.std.proofs.Common.{◌≡◌, ◌+◌, ◌*◌, ◌≤◌, ℕ, List, length}
use Rattle.arrayvec.specs.ArrayVec.{array_vec_len}
use Rattle.dvd_capture.specs.Listed.{mark_of}
use Rattle.dvd_capture.specs.Parts.{marks_rows}
use Rattle.dvd_capture.proofs.ListedWritten.{ArePut}
use Rattle.dvd_capture.proofs.runs.list_runs.Given as goal

abbrev pub invariant-loop-run : goal.invariant-loop-run
invariant-loop-run l = record {
  put : (before : List ℕ) → length before ≡ 37_856 → ArePut before (mark_of (marks_rows l.marks)) l._run l.end l.fields.items;
  len : array_vec_len l.fields ≡ 2 + 4 * l._run;
  within : l.end ≤ 37_856;
}
