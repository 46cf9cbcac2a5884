-- What each iteration of the loop in `next_place` keeps.
use Rattle.std.proofs.Common.{◌≤◌, ◌+◌, ◌*◌, not}
use Rattle.dvd_capture.specs.Listed.{mark_of}
use Rattle.dvd_capture.specs.Inner.Listing.{AreMarked}
use Rattle.dvd_capture.specs.Parts.{marks_rows}
use Rattle.dvd_capture.proofs.places.next_place.Given as goal

abbrev pub invariant-loop-m : goal.invariant-loop-m
invariant-loop-m l = record {
  within : l.start ≤ 182;
  least : l.from ≤ 182 * l.m + l.start;
  passed : AreMarked (mark_of (marks_rows l.marks)) (not l.marked) l.from (182 * l.m + l.start);
}
