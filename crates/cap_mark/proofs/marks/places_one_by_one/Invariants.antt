-- What each iteration of the loop in `places_one_by_one` keeps.
use Rattle.std.proofs.Common.{◌≡◌, ◌+◌, ◌<◌, ℕ, length, slice_index}
use Rattle.cap_mark.specs.Marks.{is_marked}
use Rattle.cap_mark.specs.Walk.{AgreeFrom}
use Rattle.dvd_capture.specs.MarkBits.{is_other}
use Rattle.cap_mark.proofs.marks.places_one_by_one.Given as goal

-- the spans that are left say the same of the places that follow, and what is said of those before is right
abbrev pub invariant-loop-j : goal.invariant-loop-j
invariant-loop-j l = record {
  size : length l.places ≡ 182;
  agree : AgreeFrom (l.start + l.j) l.left l.spans;
  said : (k : ℕ) → k < l.j → is_other 1 (slice_index l.places k) ≡ is_marked l.spans l.start k;
}
