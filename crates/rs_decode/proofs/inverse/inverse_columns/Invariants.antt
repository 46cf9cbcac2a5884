-- What each iteration of the loop in `inverse_columns` keeps.
use Rattle.std.proofs.Common.{◌≡◌, ℕ, ◌+◌, ◌-◌, ◌<◌, length, get_or, take}
use Rattle.coding.specs.Rows.{place}
use Rattle.coding.specs.Words.{value}
use Rattle.rs_decode.specs.Inner.Inverse.{quotient}
use Rattle.rs_decode.proofs.inverse.inverse_columns.Given as goal

-- the coefficients so far, and what they are at their own points
abbrev pub invariant-loop-t : goal.invariant-loop-t
invariant-loop-t l = record {
  size : length l.quotients ≡ 16;
  wide : length l.value ≡ 16;
  high : length l.derivative ≡ 16;
  coefficients : (i : ℕ) → i < length l.points → get_or l.value i 0 ≡ value (take l.t l.locator) (get_or l.points i 0);
  own : (i : ℕ) → i < length l.points → get_or l.derivative i 0 ≡ value (quotient l.locator (get_or l.points i 0) l.t) (get_or l.points i 0);
  set : (m i : ℕ) → m < l.t → i < length l.points → place l.quotients (l.count - 1 - m) i ≡ value (take (m + 1) l.locator) (get_or l.points i 0);
}
