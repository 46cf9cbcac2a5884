-- What each iteration of the loop in `lose_rows` keeps.
use Rattle.std.proofs.Common.{◌+◌, true, [], replicate}
use Rattle.dvd_capture.specs.Works.{marks_of_work, rows_of}
use Rattle.dvd_exercise.specs.Damage.{IsChanged, damaged_row}
use Rattle.dvd_exercise.specs.Inner.Kept.{KeepsRest}
use Rattle.dvd_exercise.proofs.damage.lose_rows.Given as goal

abbrev pub invariant-loop-t : goal.invariant-loop-t
invariant-loop-t l = record {
  rows : IsChanged [] l.t (λ t. damaged_row l.plan.start (l.plan.bad + t)) (λ _. replicate 182 0) (rows_of l.fn.work) (rows_of l.work);
  marks : IsChanged [] l.t (λ t. damaged_row l.plan.start (l.plan.bad + t)) (λ _. replicate 182 true) (marks_of_work l.fn.work) (marks_of_work l.work);
  rest : KeepsRest l.fn.work l.work;
}
