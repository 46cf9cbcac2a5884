-- What each iteration of the loop in `times_distances` keeps.
use Rattle.std.proofs.Common.{◌≡◌, ℕ, ◌+◌, ◌≤◌, length, get_or, take}
use Rattle.coding.specs.Field.{product}
use Rattle.rs_decode.specs.Inner.Inverse.{IsPolynomial}
use Rattle.rs_decode.specs.Inner.Locator.{distances}
use Rattle.rs_decode.proofs.inverse.times_distances.Given as goal

-- the polynomial times the distances so far
abbrev pub invariant-loop-other : goal.invariant-loop-other
invariant-loop-other l = record {
  size : length l.product ≡ 32;
  first : get_or l.product 0 0 ≡ get_or l.fn.lanes 0 0;
  is : (count : ℕ) (f : ℕ → ℕ) → count + length l.others ≤ 32 → IsPolynomial count l.fn.lanes f
      → IsPolynomial (count + l.other-index) l.product (λ x. product (f x) (distances (take l.other-index l.others) x));
}
