-- The proof of `next_place` in src/places.rt.
use Rattle.std.proofs.Common.{false, get_or, subst, arith}
use Rattle.dvd_capture.specs.Answers.{marks_line}
use Rattle.dvd_capture.specs.Inner.Listing.{IsFound}
use Rattle.dvd_capture.specs.Parts.{marks_rows}
use Rattle.dvd_capture.proofs.MarkPlaces.{found-in-row, passed-row}
use Rattle.dvd_capture.proofs.places.next_place.Goals as goal

pub loop-m-init : goal.loop-m-init
loop-m-init c = record {
  within = omega arith;
  least = omega arith;
  passed = λ place least below. absurd (omega (arith, least, below));
}

pub returns-then-place-lt182 : goal.returns-then-place-lt182
returns-then-place-lt182 c =
    let marks = marks_rows c.args.marks.now in
    found-in-row marks c.args.marked c.args.from c.loop-m.m c.loop-m.start c.next-place.result c.loop-m-test.true c.loop-m.invariant.least c.loop-m.invariant.passed
    (subst (λ i. IsFound (λ j. get_or (marks_line marks i) j false) c.args.marked c.loop-m.start 182 c.next-place.result) c.row_of_record.ensures.value c.next-place.ensures)
    c.if-place-lt182.true

pub loop-m-preserved : goal.loop-m-preserved
loop-m-preserved c =
    let marks = marks_rows c.args.marks.now in
    let over = c.if-place-lt182.false in
    let least = c.loop-m.invariant.least in
    let within = c.loop-m.invariant.within in record {
      within = omega arith;
      least = omega (arith, least, within);
      passed = λ place low high.
          passed-row marks c.args.marked c.args.from c.loop-m.m c.loop-m.start c.next-place.result c.loop-m-test.true c.loop-m.invariant.least c.loop-m.invariant.passed
          (subst (λ i. IsFound (λ j. get_or (marks_line marks i) j false) c.args.marked c.loop-m.start 182 c.next-place.result) c.row_of_record.ensures.value c.next-place.ensures)
          place low (omega (arith, over, high));
    }

pub returns : goal.returns
returns c = record {
  least = c.requires;
  within = omega arith;
  passed = λ place low high. c.loop-m.invariant.passed place low (let over = c.loop-m-test.false in omega (arith, over, high));
  found = λ inside. absurd (omega (arith, inside));
}
