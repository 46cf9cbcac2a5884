-- What each iteration of the loop in `values_at_powers` keeps.
use Rattle.std.proofs.Common.{◌≡◌, ℕ, ◌-◌, ◌<◌, length, drop, get_or}
use Rattle.coding.specs.Field.{alpha, power}
use Rattle.coding.specs.Words.{value}
use Rattle.rs_decode.proofs.values.values_at_powers.Given as goal

-- the values of the terms below the exponent
abbrev pub invariant-loop-exponent : goal.invariant-loop-exponent
invariant-loop-exponent l = record {
  size : length l.values ≡ 256;
  values : (k : ℕ) → k < l.count → get_or l.values k 0 ≡ value (drop (length l.polynomial - l.exponent) l.polynomial) (power alpha k);
}
