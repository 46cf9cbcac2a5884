-- What each iteration of the loop in `add_term` keeps.
use Rattle.std.proofs.Common.{◌≡◌, ℕ, ◌+◌, ◌*◌, ◌<◌, ◌≤◌, length, get_or}
use Rattle.coding.specs.Field.{alpha, plus, product, power}
use Rattle.rs_decode.proofs.values.add_term.Given as goal

-- the groups before this one have the term's values, those of this one are in the lanes, and from there on nothing
-- changed
abbrev pub invariant-loop-group : goal.invariant-loop-group
invariant-loop-group l = record {
  size : length l.values ≡ length l.initial.values;
  lanes : (q : ℕ) → q < 16 → get_or l.term q 0 ≡ product l.coefficient (power alpha (l.exponent * (16 * l.group + q)));
  added : (k : ℕ) → k < 16 * l.group
      → get_or l.values k 0 ≡ plus (get_or l.initial.values k 0) (product l.coefficient (power alpha (l.exponent * k)));
  kept : (k : ℕ) → 16 * l.group ≤ k → get_or l.values k 0 ≡ get_or l.initial.values k 0;
}
