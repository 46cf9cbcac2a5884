-- What each iteration of the loop in `lost_block` keeps.
use Rattle.std.proofs.Common.{◌≡◌, ◌*◌, vec_len}
use Rattle.cap_interleave.specs.Blocks.{lost_rows}
use Rattle.cap_interleave.proofs.buffers.lost_block.Given as goal

abbrev pub invariant-loop : goal.invariant-loop
invariant-loop l = record {
  items : l.block.items ≡ lost_rows l.counter;
  len : vec_len l.block ≡ 205 * l.counter;
}
