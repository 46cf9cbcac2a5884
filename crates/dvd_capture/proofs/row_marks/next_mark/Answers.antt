-- The proof of `next_mark` in src/row_marks.rt.
use Rattle.std.proofs.Common.{◌∙◌, true, false, sym, arith}
use Rattle.dvd_capture.proofs.MarkLists.{none-passed, other-mark, passed-byte, passed-one, same-mark}
use Rattle.dvd_capture.proofs.row_marks.next_mark.Goals as goal
use Rattle.dvd_capture.proofs.row_marks.next_mark.Goals.{then-mark, else-mark}

pub loop-j-init : goal.loop-j-init
loop-j-init c = elim c.if-mark.branch [
  | then-mark w ↦ let is = w.if-mark.true in rw is (record { byte = w.passed-is; least = omega arith; before = none-passed c.args.bits.now true c.args.from })
  | else-mark w ↦ let is = w.if-mark.false in rw is (record { byte = w.passed-is; least = omega arith; before = none-passed c.args.bits.now false c.args.from })
]

pub loop-j-preserved-then-bits-j : goal.loop-j-preserved-then-bits-j
loop-j-preserved-then-bits-j c = record {
  byte = c.loop-j.invariant.byte;
  least = let l = c.loop-j.invariant.least in omega (arith, l);
  before = passed-byte c.args.bits.now c.args.mark c.args.from c.loop-j.j c.loop-j.invariant.before (c.if-bits-j.true ∙ c.loop-j.invariant.byte);
}

pub returns-then-is_marked-mark : goal.returns-then-is_marked-mark
returns-then-is_marked-mark c = record {
  least = c.loop-j.invariant.least;
  within = let inside = c.loop-j-test.true in omega (arith, inside);
  passed = λ place least below. c.loop-j.invariant.before place least below (let inside = c.loop-j-test.true in omega (arith, inside, below));
  found = λ inside. sym c.is_marked.ensures ∙ same-mark c.is_marked.result c.args.mark c.if-is_marked-mark.true;
}

pub loop-j-preserved : goal.loop-j-preserved
loop-j-preserved c = record {
  byte = c.loop-j.invariant.byte;
  least = let l = c.loop-j.invariant.least in omega (arith, l);
  before = passed-one c.args.bits.now c.args.mark c.args.from c.loop-j.j c.loop-j.invariant.before
      (sym c.is_marked.ensures ∙ other-mark c.is_marked.result c.args.mark c.if-is_marked-mark.false);
}

pub returns : goal.returns
returns c = record {
  least = c.requires;
  within = omega arith;
  passed = λ place least below. c.loop-j.invariant.before place least (let over = c.loop-j-test.false in omega (arith, over, below)) below;
  found = λ inside. absurd (omega (arith, inside));
}
