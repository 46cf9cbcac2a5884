-- The proof of `RowMarks::unpack` in src/row_marks.rt.
use Rattle.std.proofs.Common.{◌∙◌, ◌<◌, length-set, arith}
use Rattle.dvd_capture.specs.MarkBits.{mark_at}
use Rattle.dvd_capture.proofs.MarkLists.{all_marks, mark-marks_of}
use Rattle.dvd_capture.proofs.SpreadMarks.{mark-more, not-zero}
use Rattle.dvd_capture.proofs.row_marks.RowMarks.unpack.Goals as goal

pub loop-j-preserved : goal.loop-j-preserved
loop-j-preserved c =
    let below : c.loop-j.j < 182 = omega (arith, c.loop-j-test.true, c.loop-j.invariant.size) in
    record {
      size = length-set _ _ _ ∙ c.loop-j.invariant.size;
      written =
          mark-more (mark_at c.args.self.now.bits) c.loop-j.out c.loop-j.j _ (omega (arith, below, c.loop-j.invariant.size)) c.loop-j.invariant.written
          (not-zero _ ∙ c.spread-spread.ensures c.loop-j.j below ∙ mark-marks_of c.args.self.now.bits c.loop-j.j below);
    }

pub returns : goal.returns
returns c =
    all_marks c.args.self.now.bits c.loop-j.out c.loop-j.invariant.size (λ k below. c.loop-j.invariant.written k (omega (arith, c.loop-j-test.false, c.loop-j.invariant.size)))
