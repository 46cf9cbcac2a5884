-- The proof of `count_runs` in src/places.rt.
use Rattle.std.proofs.Common.{◌≡◌, ◌∙◌, ◌<◌, sym, ap, arith}
use Rattle.dvd_capture.specs.Listed.{mark_of}
use Rattle.dvd_capture.specs.Inner.Listing.{starts_below}
use Rattle.dvd_capture.specs.Parts.{marks_rows}
use Rattle.dvd_capture.proofs.RunStarts.{IsNextRun, counted-next, same_starts-before, some-length, starts-none}
use Rattle.dvd_capture.proofs.places.count_runs.Goals as goal

pub loop-end-init : goal.loop-end-init
loop-end-init c = record {
  counted = starts-none (mark_of (marks_rows c.args.marks.now));
  clear = λ some. absurd (omega (arith, some));
  few = omega arith;
  within = omega arith;
}

pub returns-then-start-eq-PLACES : goal.returns-then-start-eq-PLACES
returns-then-start-eq-PLACES c =
    let mark = mark_of (marks_rows c.args.marks.now) in
    sym (ap (starts_below mark) (sym c.if-start-eq-PLACES.true)
    ∙ same_starts-before mark c.loop-end.count c.loop-end.end c.next_place-start.result c.loop-end.invariant.counted c.next_place-start.ensures)

-- the run that was found
found : (c : goal.After-next_place-end) → IsNextRun (mark_of (marks_rows c.args.marks.now)) c.loop-end.end c.next_place-start.result c.next_place-end.result
found c = record { starts = c.next_place-start.ensures; ends = c.next_place-end.ensures }

-- it starts at a place of the block
inside : (c : goal.After-next_place-end) → c.next_place-start.result < 37_856
inside c = omega (arith, c.next_place-start.ensures.within, c.if-start-eq-PLACES.false)

-- and has a place
longer : (c : goal.After-next_place-end) → c.next_place-start.result < c.next_place-end.result
longer c =
    some-length (mark_of (marks_rows c.args.marks.now)) c.loop-end.count c.loop-end.end c.next_place-start.result c.next_place-end.result
    c.loop-end.invariant.clear c.loop-end.invariant.counted (found c) (inside c)

pub loop-end-smaller : goal.loop-end-smaller
loop-end-smaller c = let more = longer c in omega (arith, more, c.next_place-start.ensures.least, c.next_place-end.ensures.within)

pub loop-end-preserved : goal.loop-end-preserved
loop-end-preserved c = record {
  counted =
      counted-next (mark_of (marks_rows c.args.marks.now)) c.loop-end.count c.loop-end.end c.next_place-start.result c.next_place-end.result
      c.loop-end.invariant.clear c.loop-end.invariant.counted (found c) (inside c);
  clear = λ some below. c.next_place-end.ensures.found below;
  few = let more = longer c in omega (arith, more, c.loop-end.invariant.few, c.next_place-start.ensures.least);
  within = c.next_place-end.ensures.within;
}

pub returns : goal.returns
returns c =
    let mark = mark_of (marks_rows c.args.marks.now) in
    let all : c.loop-end.end ≡ 37_856 = omega (arith, c.loop-end-test.false, c.loop-end.invariant.within) in
    sym (ap (starts_below mark) (sym all) ∙ c.loop-end.invariant.counted)
