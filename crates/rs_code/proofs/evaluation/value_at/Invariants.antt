-- What each iteration of the loop in `value_at` keeps.
use Rattle.std.proofs.Common.{◌≡◌, ◌-◌, ◌*◌, ◌≤◌, length, drop}
use Rattle.coding.specs.Field.{alpha, power}
use Rattle.coding.specs.Words.{value}
use Rattle.rs_code.proofs.evaluation.value_at.Given as goal

-- the value of the terms from k on, and the multiple of the exponent that the next one has
abbrev pub invariant-loop-k : goal.invariant-loop-k
invariant-loop-k l = record {
  sum : l.sum ≡ value (drop l.k l.word) (power alpha l.exponent);
  shifted : power alpha l.shift ≡ power (power alpha l.exponent) (length l.word - l.k);
  small : l.shift ≤ 255 * (length l.word - l.k);
}
