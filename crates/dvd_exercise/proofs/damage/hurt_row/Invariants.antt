-- What each iteration of the loop in `hurt_row` keeps.
use Rattle.std.proofs.Common.{◌≡◌, ◌+◌, bit_xor}
use Rattle.coding.specs.Product.{place}
use Rattle.dvd_capture.specs.Works.{rows_of}
use Rattle.dvd_exercise.specs.Damage.{error_byte, error_place}
use Rattle.dvd_exercise.specs.Generator.{state_after, state_of}
use Rattle.dvd_exercise.specs.Inner.Kept.{KeepsAllButBytes}
use Rattle.dvd_exercise.proofs.Changed.{IsLineChanged}
use Rattle.dvd_exercise.proofs.damage.hurt_row.Given as goal

abbrev pub invariant-loop-u : goal.invariant-loop-u
invariant-loop-u l = record {
  row : IsLineChanged 0 l.i l.u (error_place (state_of l.fn.rand))
      (λ u. bit_xor (place (rows_of l.fn.work) l.i (error_place (state_of l.fn.rand) u)) (error_byte (state_of l.fn.rand) u)) (rows_of l.fn.work) (rows_of l.work);
  drawn : state_of l.rand ≡ state_after (state_of l.fn.rand) (2 + l.u);
  rest : KeepsAllButBytes l.fn.work l.work;
}
