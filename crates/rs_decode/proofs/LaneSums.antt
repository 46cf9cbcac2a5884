-- Power sums of sixteen powers at once: what one byte adds in a lane, and what the syndromes say.
use Rattle.std.proofs.Common.{◌≡◌, ◌↔◌, ℕ, suc, ◌*◌, ◌<◌, ◌≤◌, List, length, drop, drop-cons, take, get_or, get_or-take, length-take-le, All, refl, sym, ap, ◌∙◌, arith}
use Rattle.std.proofs.lemmas.Grind.{same_number_lists}
use Rattle.std.proofs.lemmas.List.{drop_all}
use Rattle.coding.specs.Field.{alpha, plus, product, power}
use Rattle.coding.specs.Words.{IsByte, IsCodeword, value}
use Rattle.gf_field.proofs.FieldLaws.{plus-comm, plus-self, plus-zero_same, power-mul, power-swap, product-comm}
use Rattle.rs_code.specs.Inner.PowerSums.{power_sum}
use Rattle.rs_code.specs.Syndromes.{syndromes_of}
use Rattle.rs_code.proofs.Syndromes.{get_or-syndromes_of, length-syndromes_of}
use Rattle.rs_lanes.specs.Inner.Lanes.{HoldsLanes}

-- a power of alpha to a power, in either order
pub power-lane : (e k : ℕ) → power alpha (e * k) ≡ power (power alpha k) e
power-lane e k = power-mul alpha e k ∙ power-swap alpha e k

-- power sums from a place on, by those after it
power_sum-term : (bytes points : List ℕ) (i k : ℕ) → i < length bytes → i < length points
    → power_sum (drop i bytes) (drop i points) k ≡ plus (product (get_or bytes i 0) (power (get_or points i 0) k)) (power_sum (drop (suc i) bytes) (drop (suc i) points) k)
unfolding power_sum
power_sum-term bytes points i k inside within = rw (drop-cons bytes i 0 inside, drop-cons points i 0 within) refl

-- past the last place the power sums are 0
pub power_sum-end : (bytes points : List ℕ) (k : ℕ) → length bytes ≡ length points → power_sum (drop (length points) bytes) (drop (length points) points) k ≡ 0
unfolding power_sum
power_sum-end bytes points k fits = rw (drop_all (length points) bytes (omega arith)) refl

-- the same, as a loop has it that knows the point's logarithm
pub power_sum-lane : (bytes points : List ℕ) (i k e sum term : ℕ) → i < length bytes → i < length points → power alpha e ≡ get_or points i 0
    → sum ≡ power_sum (drop (suc i) bytes) (drop (suc i) points) k
    → term ≡ product (power alpha (e * k)) (get_or bytes i 0) → plus sum term ≡ power_sum (drop i bytes) (drop i points) k
power_sum-lane bytes points i k e sum term inside within reaches so_far is_term =
    let byte = get_or bytes i 0 in
    let rest = power_sum (drop (suc i) bytes) (drop (suc i) points) k in
    let here = product byte (power (get_or points i 0) k) in
    let as_term : term ≡ here =
    is_term ∙ product-comm (power alpha (e * k)) byte ∙ ap (product byte) (power-mul alpha e k ∙ ap (λ x. power x k) reaches) in
    ap (plus sum) as_term ∙ ap (λ v. plus v here) so_far ∙ plus-comm rest here ∙ sym (power_sum-term bytes points i k inside within)

-- a word of bytes whose syndromes are zeros is a codeword
pub IsCodeword-from_zeros : (n r : ℕ) (word syndromes : List ℕ) → length word ≡ n → All IsByte word → syndromes ≡ syndromes_of r word
    → ((k : ℕ) → k < length syndromes → get_or syndromes k 0 ≡ 0) → IsCodeword n r word
IsCodeword-from_zeros n r word syndromes size bytes are zeros = record {
  size = size;
  bytes = bytes;
  vanishes = λ k below.
      sym (get_or-syndromes_of r word k below) ∙ ap (λ xs. get_or xs k 0) (sym are)
      ∙ zeros k (omega (arith, ap length are, length-syndromes_of r word));
}

-- a word whose values are syndromes plus power sums is a codeword exactly where the two are equal
pub completed : (n r : ℕ) (filled syndromes bytes points lanes sums : List ℕ) → r ≤ 16 → length filled ≡ n → All IsByte filled → length syndromes ≡ r
    → ((k : ℕ) → k < r → value filled (power alpha k) ≡ plus (get_or syndromes k 0) (power_sum bytes points k))
    → HoldsLanes 16 lanes (λ k. power_sum bytes points k) → sums ≡ take r lanes → (sums ≡ syndromes) ↔ IsCodeword n r filled
completed n r filled syndromes bytes points lanes sums few size all long values holds are =
    let wide = holds.size in
    let as_long : length sums ≡ r = ap length are ∙ length-take-le r lanes (omega arith) in
    let at : (k : ℕ) → k < r → get_or sums k 0 ≡ power_sum bytes points k = λ k below. ap (λ xs. get_or xs k 0) are ∙ get_or-take r lanes k 0 below ∙ holds.each k (omega arith) in (
      (λ same. record {
        size = size;
        bytes = all;
        vanishes = λ k below. values k below ∙ ap (plus (get_or syndromes k 0)) (sym (at k below) ∙ ap (λ xs. get_or xs k 0) same) ∙ plus-self (get_or syndromes k 0);
      }),
      (λ codeword. same_number_lists sums syndromes (as_long ∙ sym long) (λ k inside.
          let below : k < r = omega arith in
          at k below ∙ sym (plus-zero_same (get_or syndromes k 0) (power_sum bytes points k) (sym (values k below) ∙ codeword.vanishes k below)))),
    )
