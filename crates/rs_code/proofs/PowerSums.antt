-- Bytes at points: the sum of each byte times a power of its point. A word's value at alpha^k is the k-th such sum,
-- where the point of a byte is the power of alpha by the number of bytes after it.
-- At most r bytes that aren't 0, at points that differ, have a sum that isn't 0 among the first r.
use Rattle.std.proofs.Common.{◌≡◌, ◌≢◌, ℕ, zero, suc, ◌<◌, ◌≤◌, List, [], ◌∷◌, length, All, replicate, refl, sym, ap, ◌∙◌, arith, inl, inr}
use Rattle.std.proofs.lemmas.List.Elements.{All-head, All-tail, All-cons, All-nil}
use Rattle.std.proofs.lemmas.Bool.Decides.{nat_tests}
use Rattle.coding.specs.Field.{alpha, plus, product, power}
use Rattle.coding.specs.Words.{IsByte, value}
use Rattle.gf_field.proofs.FieldLaws.{plus-byte, plus-zero, zero-plus, plus-zero_same, product-byte, product-one, product-zero, zero-product, product-zero_factor, power-zero, power-suc, power-byte, power-alpha-differ, power-swap}
use Rattle.coding.specs.Distance.{weight}
use Rattle.rs_code.specs.Inner.PowerSums.{power_sum, shifted_by, points_of, AreDistinct}
use Rattle.rs_code.proofs.Ring.{ring}
use Rattle.rs_code.proofs.Values.{value-nil, value-cons}

-- a word of n bytes has n points
pub length-points_of : (n : ℕ) → length (points_of n) ≡ n
unfolding points_of
length-points_of zero = refl
length-points_of (suc n) = ap suc (length-points_of n)

-- a word's values are power sums
pub value-power_sum : (word : List ℕ) (k : ℕ) → value word (power alpha k) ≡ power_sum word (points_of (length word)) k
unfolding power_sum points_of
value-power_sum [] k = value-nil (power alpha k)
value-power_sum (byte ∷ word) k =
    value-cons byte word (power alpha k)
    ∙ (let e = power-swap alpha k (length word) in simp (e, value-power_sum word k))

-- the powers of alpha at the places of a word of at most 255 bytes differ
points_differ : (m n : ℕ) → n ≤ m → m < 255 → All (λ y. power alpha m ≢ y) (points_of n)
unfolding points_of
points_differ m zero low high = All-nil (λ y. power alpha m ≢ y)
points_differ m (suc n) low high =
    All-cons (λ y. power alpha m ≢ y) (power alpha n) (points_of n)
    (λ same. let e : m ≡ n = power-alpha-differ m n (omega arith) (omega arith) same in absurd (omega arith))
    (points_differ m n (omega arith) high)

-- the points of a word of at most 255 bytes are distinct
pub AreDistinct-points_of : (n : ℕ) → n ≤ 255 → AreDistinct (points_of n)
unfolding points_of AreDistinct
AreDistinct-points_of zero short = tt
AreDistinct-points_of (suc n) short = (points_differ n n (omega arith) (omega arith), AreDistinct-points_of n (omega arith))

-- the points of a word are bytes
pub All-points_of : (n : ℕ) → All IsByte (points_of n)
unfolding points_of
All-points_of zero = All-nil IsByte
All-points_of (suc n) = All-cons IsByte (power alpha n) (points_of n) (power-byte alpha n) (All-points_of n)

-- with a factor for each byte there are as many bytes as before
pub length-shifted_by : (a : ℕ) (bytes points : List ℕ) → length bytes ≡ length points → length (shifted_by a bytes points) ≡ length bytes
unfolding shifted_by
length-shifted_by a [] points same = refl
length-shifted_by a (byte ∷ bytes) [] same = absurd (omega arith)
length-shifted_by a (byte ∷ bytes) (point ∷ points) same = ap suc (length-shifted_by a bytes points (omega arith))

-- with a factor for each byte they are still bytes
pub All-shifted_by : (a : ℕ) (bytes points : List ℕ) → All IsByte (shifted_by a bytes points)
unfolding shifted_by
All-shifted_by a [] points = All-nil IsByte
All-shifted_by a (byte ∷ bytes) [] = All-nil IsByte
All-shifted_by a (byte ∷ bytes) (point ∷ points) =
    All-cons IsByte (product byte (plus point a)) (shifted_by a bytes points) (product-byte byte (plus point a)) (All-shifted_by a bytes points)

-- the share of the first byte in the sum that follows, multiplied out
one_more : (a byte point up sum next : ℕ) → plus (product (product byte (plus point a)) up) (plus next (product a sum))
    ≡ plus (plus (product byte (product up point)) next) (product a (plus (product byte up) sum))
one_more a byte point up sum next = simp ring

-- a factor (point + a) for each byte: the next sum, and a times this one
pub power_sum-shifted_by : (a : ℕ) (bytes points : List ℕ) (k : ℕ) → power_sum (shifted_by a bytes points) points k
    ≡ plus (power_sum bytes points (suc k)) (product a (power_sum bytes points k))
unfolding power_sum shifted_by
power_sum-shifted_by a [] points k = simp product-zero
power_sum-shifted_by a (byte ∷ bytes) [] k = simp product-zero
power_sum-shifted_by a (byte ∷ bytes) (point ∷ points) k =
    simp (power-suc, power_sum-shifted_by a bytes points k) (one_more a byte point (power point k) (power_sum bytes points k) (power_sum bytes points (suc k)))

-- a first byte that is 0 adds nothing to the weight
pub weight-zero : (rest : List ℕ) → weight (0 ∷ rest) ≡ weight rest
unfolding weight
weight-zero rest = omega arith

-- a first byte that isn't 0 adds 1 to the weight
pub weight-nonzero : (byte : ℕ) (rest : List ℕ) → weight (suc byte ∷ rest) ≡ suc (weight rest)
unfolding weight
weight-nonzero byte rest = grind (arith, nat_tests)

-- no more bytes than before aren't 0, since zeros stay zeros
weight-shifted_by : (a : ℕ) (bytes points : List ℕ) → weight (shifted_by a bytes points) ≤ weight bytes
unfolding shifted_by weight
weight-shifted_by a [] points = omega arith
weight-shifted_by a (byte ∷ bytes) [] = omega arith
weight-shifted_by a (zero ∷ bytes) (point ∷ points) =
    let e : product 0 (plus point a) ≡ 0 = zero-product (plus point a) in
    rw e (omega (arith, weight-shifted_by a bytes points))
weight-shifted_by a (suc byte ∷ bytes) (point ∷ points) =
    let rest : weight (shifted_by a bytes points) ≤ weight bytes = weight-shifted_by a bytes points in
    grind (arith, nat_tests, rest)

-- each power sum of zeros is 0
pub power_sum-zeros : (n : ℕ) (points : List ℕ) (k : ℕ) → power_sum (replicate n 0) points k ≡ 0
unfolding power_sum
power_sum-zeros zero points k = refl
power_sum-zeros (suc n) [] k = refl
power_sum-zeros (suc n) (point ∷ points) k = simp (zero-product, plus-zero, power_sum-zeros n points k)

-- a byte that a factor other than 0 took to 0 was 0
zeros_before_shift : (a : ℕ) (bytes points : List ℕ)
    → length bytes ≡ length points
    → IsByte a
    → All IsByte bytes
    → All IsByte points
    → All (λ y. a ≢ y) points
    → shifted_by a bytes points ≡ replicate (length bytes) 0
    → bytes ≡ replicate (length bytes) 0
unfolding shifted_by
zeros_before_shift a [] points same byte_a all all_points apart zeros = refl
zeros_before_shift a (byte ∷ bytes) [] same byte_a all all_points apart zeros = absurd (omega arith)
zeros_before_shift a (byte ∷ bytes) (point ∷ points) same byte_a all all_points apart zeros =
    let here : product byte (plus point a) ≡ 0 = cc in
    let rest : shifted_by a bytes points ≡ replicate (length bytes) 0 = cc in
    let is_point = All-head IsByte point points all_points in
    let first : byte ≡ 0 = elim (product-zero_factor byte (plus point a) (All-head IsByte byte bytes all) (plus-byte point a is_point byte_a) here) [
      | inl is_zero ↦ is_zero
      | inr sum_is ↦ absurd (All-head (λ y. a ≢ y) point points apart (sym (plus-zero_same point a sum_is)))
    ] in
    let others = zeros_before_shift a bytes points (omega arith) byte_a (All-tail IsByte byte bytes all) (All-tail IsByte point points all_points) (All-tail (λ y. a ≢ y) point points apart) rest in
    cc

-- the same product in two orders, added to itself, is 0
cancels : (a b c : ℕ) → plus (product b (product c a)) (product a (product b c)) ≡ 0
cancels a b c = simp ring

-- a first byte and the rest whose sums vanish: with the first point taken out, the rest vanishes one power less far
rest_vanishes : (r byte point : ℕ) (bytes points : List ℕ)
    → ((k : ℕ) → k < suc r → plus (product byte (power point k)) (power_sum bytes points k) ≡ 0)
    → (k : ℕ) → k < r
    → power_sum (shifted_by point bytes points) points k ≡ 0
rest_vanishes r byte point bytes points vanishes k below =
    let now : product byte (power point k) ≡ power_sum bytes points k = plus-zero_same _ _ (vanishes k (omega arith)) in
    let next : product byte (power point (suc k)) ≡ power_sum bytes points (suc k) = plus-zero_same _ _ (vanishes (suc k) (omega arith)) in
    power_sum-shifted_by point bytes points k
    ∙ rw (← now, ← next, power-suc) (cancels point byte (power point k))

-- at most r bytes that aren't 0 can't hide from r sums
pub none_hidden : (r : ℕ) (points bytes : List ℕ)
    → length bytes ≡ length points
    → All IsByte bytes
    → All IsByte points
    → AreDistinct points
    → weight bytes ≤ r
    → ((k : ℕ) → k < r → power_sum bytes points k ≡ 0)
    → bytes ≡ replicate (length bytes) 0
unfolding power_sum AreDistinct
none_hidden r points [] same all all_points distinct few vanishes = refl
none_hidden r [] (byte ∷ bytes) same all all_points distinct few vanishes = absurd (omega arith)
none_hidden r (point ∷ points) (zero ∷ bytes) same all all_points distinct few vanishes =
    let rest : (k : ℕ) → k < r → power_sum bytes points k ≡ 0 = λ k below. sym (simp (zero-product, zero-plus)) ∙ vanishes k below in
    ap (λ xs. 0 ∷ xs) (none_hidden r points bytes (omega arith) (All-tail IsByte 0 bytes all) (All-tail IsByte point points all_points) distinct.1 (omega (arith, weight-zero bytes)) rest)
none_hidden zero (point ∷ points) (suc byte ∷ bytes) same all all_points distinct few vanishes = absurd (omega (arith, weight-nonzero byte bytes))
none_hidden (suc r) (point ∷ points) (suc byte ∷ bytes) same all all_points distinct few vanishes =
    let shifted = shifted_by point bytes points in
    let tail_bytes = All-tail IsByte (suc byte) bytes all in
    let tail_points = All-tail IsByte point points all_points in
    let shorter : length bytes ≡ length points = omega arith in
    let long : length shifted ≡ length bytes = length-shifted_by point bytes points shorter in
    let hidden = none_hidden r points shifted (omega arith) (All-shifted_by point bytes points) tail_points distinct.1 (omega (arith, weight-shifted_by point bytes points, weight-nonzero byte bytes)) (rest_vanishes r (suc byte) point bytes points vanishes) in
    let zeros = zeros_before_shift point bytes points shorter (All-head IsByte point points all_points) tail_bytes tail_points distinct.0 (hidden ∙ ap (λ n. replicate n 0) long) in
    let no_sum : power_sum bytes points 0 ≡ 0 = ap (λ xs. power_sum xs points 0) zeros ∙ power_sum-zeros (length bytes) points 0 in
    let first : product (suc byte) (power point 0) ≡ suc byte = ap (product (suc byte)) (power-zero point) ∙ product-one (suc byte) (All-head IsByte (suc byte) bytes all) in
    let is_zero : suc byte ≡ 0 = sym first ∙ plus-zero_same _ _ (vanishes 0 (omega arith)) ∙ no_sum in
    absurd (omega arith)
