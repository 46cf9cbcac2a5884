-- The inverse of the powers of points from the other side: the bytes that it makes of sums have these power sums.
use Rattle.std.proofs.Common.{◌≡◌, ◌≢◌, ℕ, ◌<◌, ◌≤◌, List, [], ◌∷◌, length, get_or, All, sym, ap, ◌∙◌, arith, ◌==◌, if◌then◌else◌}
use Rattle.std.proofs.lemmas.Bool.Decides.{nat_tests}
use Rattle.coding.specs.Field.{plus, product, power}
use Rattle.coding.specs.Rows.{place}
use Rattle.coding.specs.Words.{IsByte}
use Rattle.gf_field.proofs.FieldLaws.{one-product, plus-byte, plus-self, plus-zero_same, plus-product, power-byte, product-assoc, product-byte, product-comm, product-one, product-zero, zero-product}
use Rattle.rs_code.specs.Inner.PowerSums.{AreDistinct, power_sum}
use Rattle.rs_decode.specs.Register.{total}
use Rattle.rs_decode.specs.Inner.Inverse.{HasSums, IsInverse, row_sum}
use Rattle.rs_decode.proofs.Roots.{no_coefficient}
use Rattle.rs_decode.proofs.Totals.{total-byte, total-exchange, total-head, total-none, total-plus, total-product, total-same, total-single}

-- sums of multiples, each times a factor, by the multiples' own factors
exchanged : (n m : ℕ) (f h : ℕ → ℕ) (g : ℕ → ℕ → ℕ)
    → total n (λ i. product (total m (λ l. product (f l) (g l i))) (h i)) ≡ total m (λ l. product (f l) (total n (λ i. product (g l i) (h i))))
exchanged n m f h g =
    total-same n (λ i. product (total m (λ l. product (f l) (g l i))) (h i)) (λ i. total m (λ l. product (f l) (product (g l i) (h i))))
    (λ i below.
    product-comm (total m (λ l. product (f l) (g l i))) (h i)
    ∙ sym (total-product m (h i) (λ l. product (f l) (g l i)))
    ∙ total-same m (λ l. product (h i) (product (f l) (g l i))) (λ l. product (f l) (product (g l i) (h i)))
    (λ l inside. product-comm (h i) (product (f l) (g l i)) ∙ product-assoc (f l) (g l i) (h i)))
    ∙ total-exchange n m (λ i l. product (f l) (product (g l i) (h i)))
    ∙ total-same m (λ l. total n (λ i. product (f l) (product (g l i) (h i)))) (λ l. product (f l) (total n (λ i. product (g l i) (h i))))
    (λ l inside. total-product n (f l) (λ i. product (g l i) (h i)))

-- the numbers of two places
unlike : (k l : ℕ) → l ≢ k → ◌≡◌ {A = ℕ} (if k == l then 1 else 0) 0
unlike k l other = grind (arith, nat_tests)

-- a place's own number
own : (k : ℕ) → ◌≡◌ {A = ℕ} (if k == k then 1 else 0) 1
own k = grind (arith, nat_tests)

-- the number of two places is a byte
number-byte : (k l : ℕ) → (if k == l then 1 else 0) < 256
number-byte k l = grind (arith, nat_tests)

-- of the same the other way round
turned : (k l : ℕ) → ◌≡◌ {A = ℕ} (if k == l then 1 else 0) (if l == k then 1 else 0)
turned k l = grind (arith, nat_tests)

-- a sum picks the byte with one number
picked_by : (n k : ℕ) (f : ℕ → ℕ) → k < n → f k < 256 → total n (λ l. product (f l) (if k == l then 1 else 0)) ≡ f k
picked_by n k f inside byte =
    total-single n k (λ l. product (f l) (if k == l then 1 else 0)) inside (λ l below other. ap (product (f l)) (unlike k l other) ∙ product-zero (f l))
    ∙ ap (product (f k)) (own k) ∙ product-one (f k) byte

-- power sums of bytes at as many points
power_sum-total : (bytes points : List ℕ) (k : ℕ) → length bytes ≡ length points
    → power_sum bytes points k ≡ total (length points) (λ i. product (get_or bytes i 0) (power (get_or points i 0) k))
unfolding power_sum
power_sum-total [] [] k same = sym (total-none (λ i. product (get_or {A = ℕ} [] i 0) (power (get_or [] i 0) k)))
power_sum-total [] (point ∷ points) k same = absurd (omega arith)
power_sum-total (byte ∷ bytes) [] k same = absurd (omega arith)
power_sum-total (byte ∷ bytes) (point ∷ points) k same =
    ap (plus (product byte (power point k))) (power_sum-total bytes points k (omega arith))
    ∙ sym (total-head (length points) (λ i. product (get_or (byte ∷ bytes) i 0) (power (get_or (point ∷ points) i 0) k)))

-- the bytes that the columns make of sums have these power sums
pub power_sum-made : (points bytes : List ℕ) (columns : List (List ℕ)) (f : ℕ → ℕ) (k : ℕ) → HasSums points columns → length bytes ≡ length points
    → ((i : ℕ) → i < length points → get_or bytes i 0 ≡ total (length points) (λ l. product (f l) (place columns l i)))
    → k < length points → f k < 256 → power_sum bytes points k ≡ f k
power_sum-made points bytes columns f k has same made inside byte =
    let n = length points in
    let h : ℕ → ℕ = λ i. power (get_or points i 0) k in
    power_sum-total bytes points k same
    ∙ total-same n (λ i. product (get_or bytes i 0) (h i)) (λ i. product (total n (λ l. product (f l) (place columns l i))) (h i))
    (λ i below. ap (λ b. product b (h i)) (made i below))
    ∙ exchanged n n f h (λ l i. place columns l i)
    ∙ total-same n (λ l. product (f l) (total n (λ i. product (place columns l i) (h i)))) (λ l. product (f l) (if k == l then 1 else 0))
    (λ l below. ap (product (f l)) (has.sums k l inside below))
    ∙ picked_by n k f inside byte

-- the values at a point of the columns' power sums with one number are that power of it
sums-at : (points : List ℕ) (columns : List (List ℕ)) (k j : ℕ) → IsInverse points columns → j < length points
    → total (length points) (λ l. product (total (length points) (λ i. product (power (get_or points i 0) k) (place columns l i))) (power (get_or points j 0) l))
    ≡ power (get_or points j 0) k
unfolding row_sum
sums-at points columns k j inverse inside =
    let n = length points in
    let f : ℕ → ℕ = λ i. power (get_or points i 0) k in
    let h : ℕ → ℕ = λ l. power (get_or points j 0) l in
    exchanged n n f h (λ i l. place columns l i)
    ∙ total-same n (λ i. product (f i) (total n (λ l. product (place columns l i) (h l)))) (λ i. product (f i) (if j == i then 1 else 0))
    (λ i below. ap (product (f i)) (inverse.identity i j below inside ∙ turned i j))
    ∙ picked_by n j f inside (power-byte (get_or points j 0) k)

-- a polynomial less a power vanishes where it has that power's value
less-power : (points : List ℕ) (s : ℕ → ℕ) (k x : ℕ) → k < length points → total (length points) (λ l. product (s l) (power x l)) ≡ power x k
    → total (length points) (λ l. product (plus (s l) (if k == l then 1 else 0)) (power x l)) ≡ 0
less-power points s k x inside are =
    let n = length points in
    let number : ℕ → ℕ = λ l. if k == l then 1 else 0 in
    total-same n (λ l. product (plus (s l) (number l)) (power x l)) (λ l. plus (product (s l) (power x l)) (product (number l) (power x l)))
    (λ l below. plus-product (s l) (number l) (power x l))
    ∙ total-plus n (λ l. product (s l) (power x l)) (λ l. product (number l) (power x l))
    ∙ ap (λ v. plus v (total n (λ l. product (number l) (power x l)))) are
    ∙ ap (plus (power x k))
    (total-single n k (λ l. product (number l) (power x l)) inside (λ l below other. ap (λ v. product v (power x l)) (unlike k l other) ∙ zero-product (power x l))
    ∙ ap (λ v. product v (power x k)) (own k) ∙ one-product (power x k) (power-byte x k))
    ∙ plus-self (power x k)

-- An inverse from one side is one from the other: with the sums of its columns for coefficients, less a power, a
-- polynomial vanishes at all points, and it has no more coefficients than there are points.
pub HasSums-inverse : (points : List ℕ) (columns : List (List ℕ)) → AreDistinct points → All IsByte points → IsInverse points columns → HasSums points columns
HasSums-inverse points columns distinct all inverse = record {
  sums = λ k l inside below.
      let n = length points in
      let s : ℕ → ℕ = λ m. total n (λ i. product (power (get_or points i 0) k) (place columns m i)) in
      let enough : n ≤ length points = omega arith in
      let none : plus (s l) (if k == l then 1 else 0) ≡ 0 =
      no_coefficient n (λ m. plus (s m) (if k == m then 1 else 0)) points distinct all enough
      (λ m. plus-byte (s m) (if k == m then 1 else 0)
      (total-byte n (λ i. product (power (get_or points i 0) k) (place columns m i)) (λ i. product-byte (power (get_or points i 0) k) (place columns m i)))
      (number-byte k m))
      (λ j within. less-power points s k (get_or points j 0) inside (sums-at points columns k j inverse within)) l below in
      total-same n (λ i. product (place columns l i) (power (get_or points i 0) k)) (λ i. product (power (get_or points i 0) k) (place columns l i))
      (λ i under. product-comm (place columns l i) (power (get_or points i 0) k))
      ∙ plus-zero_same (s l) (if k == l then 1 else 0) none;
}
