-- The proof of `spread_bits` in src/row_marks.rt.
use Rattle.std.proofs.Common.{◌∙◌, arith}
use Rattle.dvd_capture.proofs.SpreadMarks.{spread-more}
use Rattle.dvd_capture.proofs.row_marks.spread_bits.Goals as goal

pub loop-k-preserved : goal.loop-k-preserved
loop-k-preserved c = record {
  size = c.put_bits.ensures.size ∙ c.loop-k.invariant.size;
  marks = spread-more c.args.bits.now c.loop-k.marks c.put_bits.new.marks c.loop-k.k c.loop-k.invariant.marks c.put_bits.ensures.below c.put_bits.ensures.set;
}

pub returns : goal.returns
returns c = λ k below. c.loop-k.invariant.marks k (omega (arith, below, c.loop-k-test.false))
