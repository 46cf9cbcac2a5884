-- What each iteration of the loop in `read_byte` keeps.
use Rattle.std.proofs.Common.{◌≡◌, ℕ, ◌+◌, ◌<◌, ◌≤◌, get_or}
use Rattle.coding.specs.Field.{plus, product}
use Rattle.rs_code.proofs.division.read_byte.Given as goal

-- below i each byte is the next one and the factor's share of the generator; from i on nothing changed
abbrev pub invariant-loop-i : goal.invariant-loop-i
invariant-loop-i l = record {
  moved : (k : ℕ) → k < l.i → get_or l.register k 0 ≡ plus (get_or l.initial.register (k + 1) 0) (product l.factor (get_or l.generator k 0));
  kept : (k : ℕ) → l.i ≤ k → get_or l.register k 0 ≡ get_or l.initial.register k 0;
}
