-- The proof of `put_row` in src/blocks.rt.
use Rattle.std.proofs.Common.{◌≡◌, ◌∙◌, ℕ, arith}
use Rattle.std.proofs.lemmas.List.{length-set}
use Rattle.coding.specs.Product.{place}
use Rattle.dvd_capture.specs.Works.{block_of}
use Rattle.dvdecc_c.proofs.Filling.{filled-one_more}
use Rattle.dvdecc_c.proofs.blocks.put_row.Goals as goal

pub loop-j-preserved : goal.loop-j-preserved
loop-j-preserved c = record {
  size = length-set c.loop-j.row c.loop-j.j _ ∙ c.loop-j.invariant.size;
  written = filled-one_more (λ j (byte : ℕ). byte ≡ place (block_of c.args.work.now) c.args.i j) c.loop-j.row c.loop-j.j _ 0
      (omega (arith, c.loop-j-test.true, c.loop-j.invariant.size)) c.loop-j.invariant.written c.block_byte.ensures.column;
}
