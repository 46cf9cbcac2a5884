-- What each iteration of the loop in `mark_places` keeps.
use Rattle.std.proofs.Common.{◌≡◌, ℕ, ◌<◌, ◌&&◌, ◌||◌, nat_le, nat_lt}
use Rattle.dvd_capture.specs.Listed.{mark_of}
use Rattle.dvd_capture.specs.Parts.{marks_rows}
use Rattle.dvd_capture.proofs.places.mark_places.Given as goal

abbrev pub invariant-loop-place : goal.invariant-loop-place
invariant-loop-place l =
    (place : ℕ) → place < 37_856 → mark_of (marks_rows l.marks) place ≡ (mark_of (marks_rows l.fn.marks) place || (nat_le l.start place && nat_lt place l.place))
