-- What each iteration of the loop in `put_extents` keeps: the lines of the extents that are left complete the text.
use Rattle.std.proofs.Common.{◌≡◌, ◌≤◌, ◌*◌, ◌++◌, drop}
use Rattle.arrayvec.specs.ArrayVec.{array_vec_len}
use Rattle.cap_lost.specs.Map.{last_end, extent_lines}
use Rattle.cap_lost.proofs.map.put_extents.Given as goal

abbrev pub invariant-loop-extent : goal.invariant-loop-extent
invariant-loop-extent l = record {
  text : l.lines.items ++ extent_lines l.end (drop l.extent-index l.extents) ≡ extent_lines l.at l.extents;
  ends : last_end l.end (drop l.extent-index l.extents) ≡ last_end l.at l.extents;
  len : array_vec_len l.lines ≤ 56 * l.extent-index;
}
