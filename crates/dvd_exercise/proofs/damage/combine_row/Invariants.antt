-- What each iteration of the loop in `combine_row` keeps.
use Rattle.std.proofs.Common.{◌≡◌, ◌<◌, length, bit_xor}
use Rattle.coding.specs.Product.{line, place}
use Rattle.dvd_capture.specs.Works.{rows_of}
use Rattle.dvd_exercise.specs.Generator.{drawn_byte, state_after, state_of}
use Rattle.dvd_exercise.specs.Inner.Kept.{KeepsAllButBytes}
use Rattle.dvd_exercise.proofs.Changed.{IsLineChanged}
use Rattle.dvd_exercise.proofs.damage.combine_row.Given as goal

abbrev pub invariant-loop-j : goal.invariant-loop-j
invariant-loop-j l = record {
  row : IsLineChanged 0 l.i l.j (λ k. k) (λ k. bit_xor (place (rows_of l.fn.work) l.i k) (drawn_byte (state_of l.fn.rand) k)) (rows_of l.fn.work) (rows_of l.work);
  width : 0 < l.j → length (line (rows_of l.work) l.i) ≡ 182;
  drawn : state_of l.rand ≡ state_after (state_of l.fn.rand) l.j;
  rest : KeepsAllButBytes l.fn.work l.work;
}
