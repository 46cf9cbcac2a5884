-- What each iteration of the loop in `put_row` keeps.
use Rattle.std.proofs.Common.{◌≡◌, ℕ, ◌<◌, length, get_or}
use Rattle.coding.specs.Product.{place}
use Rattle.dvd_capture.specs.Works.{block_of}
use Rattle.dvdecc_c.proofs.blocks.put_row.Given as goal

abbrev pub invariant-loop-j : goal.invariant-loop-j
invariant-loop-j l = record {
  size : length l.row ≡ 182;
  written : (j : ℕ) → j < l.j → get_or l.row j 0 ≡ place (block_of l.work) l.i j;
}
