-- What each iteration of the loop in `mark_zeros` keeps.
use Rattle.std.proofs.Common.{◌≡◌, ℕ, ◌-◌, ◌<◌, ◌≤◌, false, ◌||◌, ◌==◌, length, get_or}
use Rattle.coding.specs.Field.{alpha, power}
use Rattle.coding.specs.Words.{value}
use Rattle.rs_decode.proofs.locating.mark_zeros.Given as goal

-- before the place the zeros are marked; from there on nothing changed
abbrev pub invariant-loop-place : goal.invariant-loop-place
invariant-loop-place l = record {
  size : length l.marks ≡ length l.initial.marks;
  marked : (k : ℕ) → k < l.place
      → get_or l.marks k false ≡ (get_or l.initial.marks k false || (value l.fn.locator.items (power alpha (length l.initial.marks - 1 - k)) == 0));
  kept : (k : ℕ) → l.place ≤ k → get_or l.marks k false ≡ get_or l.initial.marks k false;
}
