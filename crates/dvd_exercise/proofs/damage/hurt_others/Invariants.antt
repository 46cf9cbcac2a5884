-- What each iteration of the loop in `hurt_others` keeps.
use Rattle.std.proofs.Common.{◌≡◌, ◌+◌}
use Rattle.dvd_capture.specs.Works.{rows_of}
use Rattle.dvd_exercise.specs.Damage.{row_state}
use Rattle.dvd_exercise.specs.Generator.{state_of}
use Rattle.dvd_exercise.specs.Inner.Kept.{KeepsAllButBytes}
use Rattle.dvd_exercise.proofs.Rows.{AreHurtBelow}
use Rattle.dvd_exercise.proofs.damage.hurt_others.Given as goal

abbrev pub invariant-loop-row : goal.invariant-loop-row
invariant-loop-row l = record {
  rows : AreHurtBelow l.plan.start (l.plan.bad + l.plan.lost) (state_of l.fn.rand) (rows_of l.fn.work) (rows_of l.work) l.row;
  drawn : state_of l.rand ≡ row_state l.plan.start (l.plan.bad + l.plan.lost) (state_of l.fn.rand) l.row;
  rest : KeepsAllButBytes l.fn.work l.work;
}
