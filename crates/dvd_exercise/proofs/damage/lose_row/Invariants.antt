-- What each iteration of the loop in `lose_row` keeps.
use Rattle.std.proofs.Common.{◌≡◌, ◌<◌, true, false, length}
use Rattle.coding.specs.Product.{line}
use Rattle.dvd_capture.specs.Works.{marks_of_work, rows_of}
use Rattle.dvd_exercise.specs.Inner.Kept.{KeepsRest}
use Rattle.dvd_exercise.proofs.Changed.{IsLineChanged}
use Rattle.dvd_exercise.proofs.damage.lose_row.Given as goal

abbrev pub invariant-loop-j : goal.invariant-loop-j
invariant-loop-j l = record {
  row : IsLineChanged 0 l.i l.j (λ k. k) (λ _. 0) (rows_of l.fn.work) (rows_of l.work);
  width : 0 < l.j → length (line (rows_of l.work) l.i) ≡ 182;
  marks : IsLineChanged false l.i l.j (λ k. k) (λ _. true) (marks_of_work l.fn.work) (marks_of_work l.work);
  rest : KeepsRest l.fn.work l.work;
}
