-- What each iteration of the loop in `put_digits` keeps: the digits at the places that are left complete the text.
use Rattle.std.proofs.Common.{◌≡◌, ◌+◌, ◌++◌}
use Rattle.arrayvec.specs.ArrayVec.{array_vec_len}
use Rattle.dvd_report.specs.Lines.{hexadecimal}
use Rattle.cap_lost.proofs.map.put_digits.Given as goal

abbrev pub invariant-loop-place : goal.invariant-loop-place
invariant-loop-place l = record {
  text : l.lines.items ++ hexadecimal l.place l.number ≡ l.fn.lines.items ++ hexadecimal l.width l.number;
  len : array_vec_len l.lines + l.place ≡ array_vec_len l.fn.lines + l.width;
}
