-- Words of five bytes at the fifth roots of one: value-five, the roots (roots), and the sums by which `at_fifth_roots` has the
-- five values (FifthSums, fifth_sums, each_of_five). The five pieces of a third: value-rotated of bytes multiplied by
-- powers first, folded-five, folded-exponent. The exponents below 15: all_exponents.
use Rattle.std.proofs.Common.{◌≡◌, ℕ, zero, suc, ◌+◌, ◌*◌, ◌/◌, ◌%◌, ◌<◌, List, [], ◌∷◌, length, get_or, refl, sym, ap, subst, ◌∙◌, inl, inr, arith}
use Rattle.std.proofs.lemmas.Bool.{cases_eq}
use Rattle.coding.specs.Field.{alpha, plus, shift, shifted, product, power}
use Rattle.coding.specs.Words.{value}
use Rattle.gf_field.proofs.FieldLaws.{product-plus, product-one, product-assoc, product-power, plus-zero, power-zero, power-suc, power-one, power-byte, power-add, power-mul, power-alpha-mod, power-alpha-shifted}
use Rattle.rs_code.proofs.Ring.{ring}
use Rattle.rs_code.proofs.Values.{value-nil, value-cons}
use Rattle.rs_lanes.specs.Inner.Thirds.{exponent_at, folded}
use Rattle.rs_lanes.proofs.ThirdLemmas.{get_or-folded_zero, folded_more}

-- the value of five bytes, term by term
value-five : (a0 a1 a2 a3 a4 x : ℕ) → a0 < 256
    → value (a4 ∷ a3 ∷ a2 ∷ a1 ∷ a0 ∷ []) x
    ≡ plus (product a4 (power x 4)) (plus (product a3 (power x 3)) (plus (product a2 (power x 2)) (plus (product a1 (power x 1)) a0)))
value-five a0 a1 a2 a3 a4 x byte = simp (value-cons, value-nil, power-zero, plus-zero, product-one a0 byte)

-- the roots other than 1: alpha^51, and its powers up to the fourth
roots : (power alpha 51 ≡ 0x0A) × (power alpha 102 ≡ 0x44) × (power alpha 153 ≡ 0x92) × (power alpha 204 ≡ 0xDD)
unfolding shifted shift
roots = (power-alpha-shifted 51 ∙ refl, power-alpha-shifted 102 ∙ refl, power-alpha-shifted 153 ∙ refl, power-alpha-shifted 204 ∙ refl)

-- 0x0A is 0xDD and 0xD7
product-0a : (a : ℕ) → product a 0x0A ≡ plus (product a 0xDD) (product a 0xD7)
product-0a a = product-plus a 0xDD 0xD7

-- 0x44 is 0x92, 0xD7 and 1
product-44 : (a : ℕ) → a < 256 → product a 0x44 ≡ plus (product a 0x92) (plus (product a 0xD7) a)
product-44 a byte = product-plus a 0x92 0xD6 ∙ ap (plus (product a 0x92)) (product-plus a 0xD7 1 ∙ ap (plus (product a 0xD7)) (product-one a byte))

-- 0x4F is 0x92 and 0xDD
product-4f : (a : ℕ) → product a 0x4F ≡ plus (product a 0x92) (product a 0xDD)
product-4f a = product-plus a 0x92 0xDD

-- 0x98 is 0x92 and 0x0A
product-98 : (a : ℕ) → product a 0x98 ≡ plus (product a 0x92) (product a 0x0A)
product-98 a = product-plus a 0x92 0x0A

-- the sums of five bytes that are their word's values at the fifth roots of one. 0x92 is the inverse of 0x44 and 0xDD
-- that of 0x0A, so the values there come from those at their inverses
pub record FifthSums (a0 a1 a2 a3 a4 : ℕ) : Type 0 where
  pub zero : plus a0 (plus (plus a1 a4) (plus a2 a3)) ≡ value (a4 ∷ a3 ∷ a2 ∷ a1 ∷ a0 ∷ []) (power alpha 0)
  pub one : plus (plus (plus a0 (product (plus a1 a2) 0xD7)) a2) (plus (product (plus (plus a1 a4) (plus a2 a3)) 0x92) (product (plus a1 a4) 0x4F))
      ≡ value (a4 ∷ a3 ∷ a2 ∷ a1 ∷ a0 ∷ []) (power alpha 51)
  pub two : plus (plus (plus a0 (product (plus a1 a2) 0xD7)) a1) (plus (product (plus (plus a1 a4) (plus a2 a3)) 0x92) (product (plus a2 a3) 0x98))
      ≡ value (a4 ∷ a3 ∷ a2 ∷ a1 ∷ a0 ∷ []) (power alpha 102)
  pub three : plus (value (a4 ∷ a3 ∷ a2 ∷ a1 ∷ a0 ∷ []) (power alpha 102)) (plus (product (plus (plus a1 a4) (plus a2 a3)) 0xD7) (plus a1 a4))
      ≡ value (a4 ∷ a3 ∷ a2 ∷ a1 ∷ a0 ∷ []) (power alpha 153)
  pub four : plus (value (a4 ∷ a3 ∷ a2 ∷ a1 ∷ a0 ∷ []) (power alpha 51)) (plus (product (plus (plus a1 a4) (plus a2 a3)) 0xD7) (plus a2 a3))
      ≡ value (a4 ∷ a3 ∷ a2 ∷ a1 ∷ a0 ∷ []) (power alpha 204)

module _ (a0 a1 a2 a3 a4 : ℕ) (byte0 : a0 < 256) (byte1 : a1 < 256) (byte2 : a2 < 256) (byte3 : a3 < 256) (byte4 : a4 < 256) where
  -- the value where the powers are these
  abbrev sum_at : ℕ → ℕ → ℕ → ℕ → ℕ
  sum_at x1 x2 x3 x4 = plus (product a4 x4) (plus (product a3 x3) (plus (product a2 x2) (plus (product a1 x1) a0)))

  -- the value at alpha^(51 m), whose powers are roots again
  at-root : (m x1 x2 x3 x4 : ℕ)
      → power alpha (51 * m * 1 % 255) ≡ x1 → power alpha (51 * m * 2 % 255) ≡ x2
      → power alpha (51 * m * 3 % 255) ≡ x3 → power alpha (51 * m * 4 % 255) ≡ x4
      → value (a4 ∷ a3 ∷ a2 ∷ a1 ∷ a0 ∷ []) (power alpha (51 * m)) ≡ sum_at x1 x2 x3 x4
  at-root m x1 x2 x3 x4 one two three four =
      let root : (n x : ℕ) → power alpha (51 * m * n % 255) ≡ x → power (power alpha (51 * m)) n ≡ x = λ n x is.
      sym (power-alpha-mod (51 * m * n) ∙ power-mul alpha (51 * m) n) ∙ is in
      value-five a0 a1 a2 a3 a4 (power alpha (51 * m)) byte0 ∙ rw (root 4 x4 four, root 3 x3 three, root 2 x2 two, root 1 x1 one) refl

  -- the value at 1
  value-zero : value (a4 ∷ a3 ∷ a2 ∷ a1 ∷ a0 ∷ []) (power alpha 0) ≡ plus a4 (plus a3 (plus a2 (plus a1 a0)))
  value-zero =
      at-root 0 1 1 1 1 (power-zero alpha) (power-zero alpha) (power-zero alpha) (power-zero alpha)
      ∙ rw (product-one a4 byte4, product-one a3 byte3, product-one a2 byte2, product-one a1 byte1) refl

  -- the value at 0x0A
  value-one : value (a4 ∷ a3 ∷ a2 ∷ a1 ∷ a0 ∷ []) (power alpha 51) ≡ sum_at 0x0A 0x44 0x92 0xDD
  value-one = at-root 1 0x0A 0x44 0x92 0xDD roots.0 roots.1 roots.2 roots.3

  -- the value at 0x44
  value-two : value (a4 ∷ a3 ∷ a2 ∷ a1 ∷ a0 ∷ []) (power alpha 102) ≡ sum_at 0x44 0xDD 0x0A 0x92
  value-two = at-root 2 0x44 0xDD 0x0A 0x92 roots.1 roots.3 roots.0 roots.2

  -- the value at 0x92
  value-three : value (a4 ∷ a3 ∷ a2 ∷ a1 ∷ a0 ∷ []) (power alpha 153) ≡ sum_at 0x92 0x0A 0xDD 0x44
  value-three = at-root 3 0x92 0x0A 0xDD 0x44 roots.2 roots.0 roots.3 roots.1

  -- the value at 0xDD
  value-four : value (a4 ∷ a3 ∷ a2 ∷ a1 ∷ a0 ∷ []) (power alpha 204) ≡ sum_at 0xDD 0x92 0x44 0x0A
  value-four = at-root 4 0xDD 0x92 0x44 0x0A roots.3 roots.2 roots.1 roots.0

  -- the sums are these values
  pub fifth_sums : FifthSums a0 a1 a2 a3 a4
  fifth_sums = record {
    zero = rw value-zero (simp ring);
    one = rw (value-one, product-0a a1, product-44 a2 byte2, product-4f (plus a1 a4)) (simp ring);
    two = rw (value-two, product-44 a1 byte1, product-0a a3, product-98 (plus a2 a3), product-0a (plus a2 a3)) (simp ring);
    three = rw (value-two, value-three, product-44 a1 byte1, product-44 a4 byte4, product-0a a2, product-0a a3) (simp ring);
    four = rw (value-one, value-four, product-0a a1, product-0a a4, product-44 a2 byte2, product-44 a3 byte3) (simp ring);
  }

-- what holds of the first five numbers
pub each_of_five : (P : ℕ → Type 0) → P 0 → P 1 → P 2 → P 3 → P 4 → (m : ℕ) → m < 5 → P m
each_of_five P p0 p1 p2 p3 p4 zero below = p0
each_of_five P p0 p1 p2 p3 p4 (suc zero) below = p1
each_of_five P p0 p1 p2 p3 p4 (suc (suc zero)) below = p2
each_of_five P p0 p1 p2 p3 p4 (suc (suc (suc zero))) below = p3
each_of_five P p0 p1 p2 p3 p4 (suc (suc (suc (suc zero)))) below = p4
each_of_five P p0 p1 p2 p3 p4 (suc (suc (suc (suc (suc m))))) below = absurd (omega arith)

-- ---- the five pieces of a third

-- a byte multiplied by a power first
rotated-term : (a l x n : ℕ) → product (product a (power l n)) (power x n) ≡ product a (power (product l x) n)
rotated-term a l x n = product-assoc a (power l n) (power x n) ∙ ap (product a) (sym (product-power l x n))

-- bytes multiplied by the powers of a factor have the word's value at the product
value-rotated : (a0 a1 a2 a3 a4 l x : ℕ)
    → value (product a4 (power l 4) ∷ product a3 (power l 3) ∷ product a2 (power l 2) ∷ product a1 (power l 1) ∷ product a0 (power l 0) ∷ []) x
    ≡ value (a4 ∷ a3 ∷ a2 ∷ a1 ∷ a0 ∷ []) (product l x)
value-rotated a0 a1 a2 a3 a4 l x = simp (value-cons, rotated-term, value-nil)

-- Horner's rule on five bytes
horner-five : (a0 a1 a2 a3 a4 x : ℕ) → a0 < 256 → x < 256
    → value (a4 ∷ a3 ∷ a2 ∷ a1 ∷ a0 ∷ []) x
    ≡ plus (product x (plus (product x (plus (product x (plus (product x a4) a3)) a2)) a1)) a0
horner-five a0 a1 a2 a3 a4 x byte0 byte =
    let one : power x 1 ≡ x = power-one x byte in
    let two : power x 2 ≡ product x x = power-suc x 1 ∙ ap (λ p. product p x) one in
    let three : power x 3 ≡ product (product x x) x = power-suc x 2 ∙ ap (λ p. product p x) two in
    let four : power x 4 ≡ product (product (product x x) x) x = power-suc x 3 ∙ ap (λ p. product p x) three in
    value-five a0 a1 a2 a3 a4 x byte0 ∙ rw (four, three, two, one) (simp ring)

-- a place of the five pieces added up is the value of their bytes
folded-five : (factor : ℕ) (word : List ℕ) (q : ℕ) → length word ≡ 85 → q < 17 → factor < 256 → get_or word (68 + q) 0 < 256
    → value (get_or word q 0 ∷ get_or word (17 + q) 0 ∷ get_or word (34 + q) 0 ∷ get_or word (51 + q) 0 ∷ get_or word (68 + q) 0 ∷ []) factor
    ≡ get_or (folded 17 factor word 4) q 0
folded-five factor word q long below byte last =
    horner-five _ _ _ _ _ factor last byte
    ∙ folded_more 17 factor word 3 q _ _ below (omega arith)
    (folded_more 17 factor word 2 q _ _ below (omega arith)
    (folded_more 17 factor word 1 q _ _ below (omega arith)
    (folded_more 17 factor word 0 q _ _ below (omega arith) (sym (get_or-folded_zero 17 factor word q below)) refl) refl) refl) refl

-- exponents of alpha that are equal mod 255 have one power
pub power-alpha-same : (e f : ℕ) → e % 255 ≡ f % 255 → power alpha e ≡ power alpha f
power-alpha-same e f same = sym (power-alpha-mod e) ∙ ap (power alpha) same ∙ power-alpha-mod f

-- the 17th powers of alpha for the exponents of a third
power-exponent : (i m : ℕ) → product (power alpha (170 * i)) (power alpha (51 * m)) ≡ power (power alpha (exponent_at i m)) 17
power-exponent i m =
    let same : (170 * i + 51 * m) % 255 ≡ (10 * i + 3 * m) % 15 * 17 % 255 = omega arith in
    sym (power-add alpha (170 * i) (51 * m)) ∙ power-alpha-same (170 * i + 51 * m) (exponent_at i m * 17) same ∙ power-mul alpha (exponent_at i m) 17

-- that of alpha^15 is the one of the first exponent of the first third
pub power-last : power (power alpha (exponent_at 0 0)) 17 ≡ power (power alpha 15) 17
power-last = sym (power-mul alpha 0 17) ∙ power-alpha-same 0 255 refl ∙ power-mul alpha 15 17

-- the place for the exponent with number m
pub folded-exponent : (i m : ℕ) (word : List ℕ) (q a0 a1 a2 a3 a4 : ℕ) → length word ≡ 85 → q < 17 → get_or word (68 + q) 0 < 256
    → a0 ≡ product (get_or word (68 + q) 0) (power alpha (85 * 0))
    → a1 ≡ product (get_or word (51 + q) 0) (power alpha (85 * (2 * i)))
    → a2 ≡ product (get_or word (34 + q) 0) (power alpha (85 * (4 * i)))
    → a3 ≡ product (get_or word (17 + q) 0) (power alpha (85 * (6 * i)))
    → a4 ≡ product (get_or word q 0) (power alpha (85 * (8 * i)))
    → value (a4 ∷ a3 ∷ a2 ∷ a1 ∷ a0 ∷ []) (power alpha (51 * m)) ≡ get_or (folded 17 (power (power alpha (exponent_at i m)) 17) word 4) q 0
folded-exponent i m word q a0 a1 a2 a3 a4 long below last is0 is1 is2 is3 is4 =
    let l = power alpha (170 * i) in
    let rotations : (n e : ℕ) → e ≡ 170 * i * n → power alpha e ≡ power l n = λ n e is. ap (power alpha) is ∙ power-mul alpha (170 * i) n in
    rw (
      is4 ∙ ap (product (get_or word q 0)) (rotations 4 _ (omega arith)),
      is3 ∙ ap (product (get_or word (17 + q) 0)) (rotations 3 _ (omega arith)),
      is2 ∙ ap (product (get_or word (34 + q) 0)) (rotations 2 _ (omega arith)),
      is1 ∙ ap (product (get_or word (51 + q) 0)) (rotations 1 _ (omega arith)),
      is0 ∙ ap (product (get_or word (68 + q) 0)) (rotations 0 _ (omega arith)),
      value-rotated _ _ _ _ _ l (power alpha (51 * m)),
      power-exponent i m,
    )
    (folded-five (power (power alpha (exponent_at i m)) 17) word q long below (power-byte _ 17) last)

-- ---- the exponents below 15

-- what holds of each exponent of the three thirds holds of all exponents below 15
pub all_exponents : (P : ℕ → ℕ → Type 0) (count : ℕ)
    → ((m : ℕ) → m < 5 → exponent_at 0 m < count → P 0 (exponent_at 0 m))
    → ((m : ℕ) → m < 5 → exponent_at 1 m < count → P 1 (exponent_at 1 m))
    → ((m : ℕ) → m < 5 → exponent_at 2 m < count → P 2 (exponent_at 2 m))
    → (k : ℕ) → k < 15 → k < count → P (k % 3) k
all_exponents P count p0 p1 p2 k below inside =
    let said : (i m : ℕ) → k % 3 ≡ i → exponent_at i m ≡ k → (exponent_at i m < count → P i (exponent_at i m)) → P (k % 3) k = λ i m rest is p.
    subst (λ r. P r k) (sym rest) (subst (P i) is (p (subst (λ e. e < count) (sym is) inside))) in
    elim (cases_eq (k % 3) 0) [
      | inl none ↦ said 0 (k / 3) none (omega arith) (p0 (k / 3) (omega arith))
      | inr some ↦
          elim (cases_eq (k % 3) 1) [
            | inl one ↦ said 1 ((k + 5) / 3 % 5) one (omega arith) (p1 ((k + 5) / 3 % 5) (omega arith))
            | inr more ↦
                let two : k % 3 ≡ 2 = omega arith in
                said 2 ((k + 10) / 3 % 5) two (omega arith) (p2 ((k + 10) / 3 % 5) (omega arith))
          ]
    ]
