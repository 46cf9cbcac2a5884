-- The proof of `pack_others` in src/row_marks.rt.
use Rattle.std.proofs.Common.{◌∙◌, ◌*◌, ◌%◌, length-set, map, ap, arith}
use Rattle.dvd_capture.specs.MarkBits.{is_other, mark_byte, mark_bytes}
use Rattle.dvd_capture.proofs.Mapped.{mapped}
use Rattle.dvd_capture.proofs.PackedMarks.{byte-inside, byte-last, set-more}
use Rattle.dvd_capture.proofs.row_marks.pack_others.Goals as goal

pub loop-k-preserved : goal.loop-k-preserved
loop-k-preserved c = record {
  size = length-set _ _ _ ∙ c.loop-k.invariant.size;
  packed =
      set-more (mark_byte (map (is_other c.args.value) c.args.bytes.now)) c.loop-k.bits c.loop-k.k c.other_bits.result (omega (arith, c.loop-k.invariant.size, c.loop-k-test.true)) c.loop-k.invariant.packed
      (c.other_bits.ensures ∙ byte-inside c.args.value c.args.bytes.now c.loop-k.k c.told-bytes c.loop-k-test.true);
}

pub returns : goal.returns
unfolding mark_bytes
returns c =
    mapped (mark_byte (map (is_other c.args.value) c.args.bytes.now)) _ 23 0 (length-set _ _ _ ∙ c.loop-k.invariant.size)
    (set-more (mark_byte (map (is_other c.args.value) c.args.bytes.now)) c.loop-k.bits 22 _ (omega (arith, c.loop-k.invariant.size))
    (λ q below. c.loop-k.invariant.packed q (omega (arith, below, c.loop-k-test.false)))
    (ap (λ n. n * 4 % 256) c.other_bits-2.ensures ∙ byte-last c.args.value c.args.bytes.now c.told-bytes))
