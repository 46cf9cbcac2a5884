-- What each iteration of the loop in `count_runs` keeps.
use Rattle.std.proofs.Common.{◌≡◌, ◌-◌, ◌<◌, ◌≤◌, false}
use Rattle.dvd_capture.specs.Listed.{mark_of}
use Rattle.dvd_capture.specs.Inner.Listing.{starts_below}
use Rattle.dvd_capture.specs.Parts.{marks_rows}
use Rattle.dvd_capture.proofs.places.count_runs.Given as goal

abbrev pub invariant-loop-end : goal.invariant-loop-end
invariant-loop-end l = record {
  counted : starts_below (mark_of (marks_rows l.marks)) l.end ≡ l.count;
  clear : 0 < l.end → l.end < 37_856 → mark_of (marks_rows l.marks) l.end ≡ false;
  few : l.count ≤ l.end;
  within : l.end ≤ 37_856;
}

abbrev pub decreases-loop-end : goal.decreases-loop-end
decreases-loop-end l = 37_856 - l.end
