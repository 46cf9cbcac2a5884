-- What each iteration of the loop in `add_word` keeps.
use Rattle.std.proofs.Common.{◌≡◌, ℕ, ◌<◌, ◌≤◌, length, get_or}
use Rattle.coding.specs.Field.{plus}
use Rattle.rs_code.proofs.division.add_word.Given as goal

-- below i the sum, from i on what was there
abbrev pub invariant-loop-i : goal.invariant-loop-i
invariant-loop-i l = record {
  size : length l.sum ≡ length l.initial.sum;
  added : (k : ℕ) → k < l.i → get_or l.sum k 0 ≡ plus (get_or l.initial.sum k 0) (get_or l.word k 0);
  kept : (k : ℕ) → l.i ≤ k → get_or l.sum k 0 ≡ get_or l.initial.sum k 0;
}
