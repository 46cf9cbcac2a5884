-- What each iteration of the loop in `combine_rows` keeps.
use Rattle.std.proofs.Common.{◌≡◌, ◌*◌, []}
use Rattle.coding.specs.Product.{line}
use Rattle.dvd_capture.specs.Works.{rows_of}
use Rattle.dvd_exercise.specs.Damage.{IsChanged, combined, damaged_row}
use Rattle.dvd_exercise.specs.Generator.{state_after, state_of}
use Rattle.dvd_exercise.specs.Inner.Kept.{KeepsAllButBytes}
use Rattle.dvd_exercise.proofs.damage.combine_rows.Given as goal

abbrev pub invariant-loop-turn : goal.invariant-loop-turn
invariant-loop-turn l = record {
  rows : IsChanged [] l.turn (damaged_row l.plan.start)
      (λ t. combined (state_after (state_of l.fn.rand) (182 * t)) (line (rows_of l.fn.work) (damaged_row l.plan.start t))) (rows_of l.fn.work) (rows_of l.work);
  drawn : state_of l.rand ≡ state_after (state_of l.fn.rand) (182 * l.turn);
  rest : KeepsAllButBytes l.fn.work l.work;
}
