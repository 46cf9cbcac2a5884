-- What each iteration of the loop in `put_block` keeps.
use Rattle.std.proofs.Common.{◌≡◌, ℕ, ◌<◌, length}
use Rattle.coding.specs.Product.{line}
use Rattle.dvd_capture.specs.Works.{block_of}
use Rattle.dvdecc_c.proofs.blocks.put_block.Given as goal

abbrev pub invariant-loop-i : goal.invariant-loop-i
invariant-loop-i l = record {
  size : length l.rows ≡ 208;
  written : (i : ℕ) → i < l.i → line l.rows i ≡ line (block_of l.work) i;
}
