-- What each iteration of the loop in `answer_column_group` keeps.
use Rattle.std.proofs.Common.{◌≡◌, ◌≤◌, ◌<◌, ℕ, length}
use Rattle.coding.specs.Product.{place}
use Rattle.dvd_capture.specs.Parts.{marks_of_rows}
use Rattle.dvd_deep.specs.Rounds.{State}
use Rattle.dvd_deep.specs.Inner.Steps.{AreStepped, AreTold, AreWide}
use Rattle.dvd_deep.proofs.column_step.answer_column_group.Given as goal

-- the columns before have had their step, and the others have the values that were found
abbrev pub invariant-loop-j : goal.invariant-loop-j
invariant-loop-j l = record {
  height : length l.rows ≡ 208;
  size : length l.answered ≡ 182;
  wide : AreWide l.rows;
  left : (i k : ℕ) → i < 208 → l.j ≤ k → k < 182 → place l.rows i k ≡ place l.fn.rows i k;
  stepped : (state : State) → length state.rows ≡ 208 → state.marks ≡ marks_of_rows l.tries.marks.now → AreStepped l.tries.failed.now state l.fn.rows l.start → AreStepped l.tries.failed.now state l.rows l.j;
  told : (state : State) → length state.rows ≡ 208 → state.marks ≡ marks_of_rows l.tries.marks.now → AreStepped l.tries.failed.now state l.fn.rows l.start
      → AreTold l.tries.failed.now state l.fn.answered l.start → AreTold l.tries.failed.now state l.answered l.j;
}
