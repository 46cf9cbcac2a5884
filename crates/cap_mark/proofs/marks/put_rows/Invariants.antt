-- What each iteration of the loop in `put_rows` keeps.
use Rattle.std.proofs.Common.{◌≡◌, ◌+◌, ◌*◌}
use Rattle.arrayvec.specs.ArrayVec.{array_vec_len}
use Rattle.cap_mark.specs.Frames.{marked_rows}
use Rattle.cap_mark.specs.Walk.{AgreeFrom}
use Rattle.cap_mark.proofs.marks.put_rows.Given as goal

abbrev pub invariant-loop-n : goal.invariant-loop-n
invariant-loop-n l = record {
  agree : AgreeFrom (l.start + 182 * l.n) l.left l.spans;
  items : l.out.items ≡ marked_rows l.spans l.start l.frame l.n;
  len : array_vec_len l.out ≡ 205 * l.n;
}
