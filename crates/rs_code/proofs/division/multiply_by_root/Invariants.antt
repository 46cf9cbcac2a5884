-- What each iteration of the loop in `multiply_by_root` keeps.
use Rattle.std.proofs.Common.{◌≡◌, ℕ, ◌<◌, ◌≤◌, ◌∷◌, get_or}
use Rattle.coding.specs.Field.{plus, product}
use Rattle.rs_code.proofs.division.multiply_by_root.Given as goal

-- below the index each coefficient has the root times the one before it added; from there on nothing changed
abbrev pub invariant-loop-coefficient : goal.invariant-loop-coefficient
invariant-loop-coefficient l = record {
  before_is : l.before ≡ get_or (1 ∷ l.initial.coefficients) l.coefficient-index 0;
  multiplied : (k : ℕ) → k < l.coefficient-index → get_or l.coefficients k 0 ≡ plus (get_or l.initial.coefficients k 0) (product l.root (get_or (1 ∷ l.initial.coefficients) k 0));
  kept : (k : ℕ) → l.coefficient-index ≤ k → get_or l.coefficients k 0 ≡ get_or l.initial.coefficients k 0;
}
