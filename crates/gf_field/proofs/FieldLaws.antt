-- The laws of the field: sum and product of any numbers, and of bytes where a law needs them.
use Rattle.std.proofs.Common.{◌≡◌, ◌≢◌, ◌⊎◌, inl, inr, ℕ, zero, suc, ◌+◌, ◌-◌, ◌*◌, ◌/◌, ◌%◌, ◌^◌, ◌<◌, ◌≤◌, refl, sym, ap, ◌∙◌, arith}
use Rattle.std.specs.Int.{bit_at}
use Rattle.std.specs.Int.Bits.{xor_assoc, xor_self, xor_zero_l, xor_zero_r}
use Rattle.std.proofs.Math.Nat.{pow-suc}
use Rattle.std.proofs.lemmas.Bool.{cases_lt}
use Rattle.std.proofs.lemmas.Nat.{xor_comm, xor_lt, xor_mod, xor_shr, xor_block}
use Rattle.std.proofs.lemmas.Nat.Bits.{bit_at-lt, bit_at_cat_low}
use Rattle.coding.specs.Field.{alpha, plus, shift, shifted, partial_product, product, power}
use Rattle.gf_field.specs.Laws.{HasInverse, IsPowerOfAlpha}
use Rattle.gf_field.proofs.Tables.{shift-parts, shift-byte, product-alpha, product-by_one, product-bits, inverse, inverse_by, inverse_from, product-inverse, shifted-one-255, shifted-one-below, logarithm, shifted-logarithm, shifted-after_shift}

-- Sums.

-- the order of the summands doesn't matter
pub plus-comm : (a b : ℕ) → plus a b ≡ plus b a
plus-comm a b = xor_comm a b

-- the grouping of summands doesn't matter
pub plus-assoc : (a b c : ℕ) → plus (plus a b) c ≡ plus a (plus b c)
plus-assoc a b c = xor_assoc a b c

-- 0 after a number adds nothing
pub plus-zero : (a : ℕ) → plus a 0 ≡ a
plus-zero a = xor_zero_r a

-- 0 before a number adds nothing
pub zero-plus : (a : ℕ) → plus 0 a ≡ a
zero-plus a = xor_zero_l a

-- a number plus itself is 0
pub plus-self : (a : ℕ) → plus a a ≡ 0
plus-self a = xor_self a

-- a number that is added twice adds nothing
pub plus-again : (a b : ℕ) → plus a (plus a b) ≡ b
plus-again a b = sym (plus-assoc a a b) ∙ ap (λ x. plus x b) (plus-self a) ∙ zero-plus b

-- a sum is 0 only where both are equal
pub plus-zero_same : (a b : ℕ) → plus a b ≡ 0 → a ≡ b
plus-zero_same a b sum_is = sym (plus-zero a) ∙ ap (plus a) (sym sum_is) ∙ plus-again a b

-- the same summand on the left of both sides cancels
pub plus-cancel : (a b c : ℕ) → plus a b ≡ plus a c → b ≡ c
plus-cancel a b c same = sym (plus-again a b) ∙ ap (plus a) same ∙ plus-again a c

-- the same summand on the right of both sides cancels
pub plus-cancel_right : (a b c : ℕ) → plus b a ≡ plus c a → b ≡ c
plus-cancel_right a b c same = plus-cancel a b c (plus-comm a b ∙ same ∙ plus-comm c a)

-- a sum of bytes is a byte
pub plus-byte : (a b : ℕ) → a < 256 → b < 256 → plus a b < 256
plus-byte a b byte_a byte_b = xor_lt 8 a b byte_a byte_b

-- two sums are summed part by part
pub plus-pairs : (a b c d : ℕ) → plus (plus a b) (plus c d) ≡ plus (plus a c) (plus b d)
plus-pairs a b c d =
    plus-assoc a b (plus c d) ∙ ap (plus a) (sym (plus-assoc b c d) ∙ ap (λ x. plus x d) (plus-comm b c) ∙ plus-assoc c b d) ∙ sym (plus-assoc a c (plus b d))

-- Products are linear in the second factor: each of its bits is.

-- a bit of a sum is the sum of the two bits
bit_at-plus : (a b k : ℕ) → bit_at (plus a b) k ≡ plus (bit_at a k) (bit_at b k)
bit_at-plus a b k = ap (λ x. x % 2) (xor_shr a b k) ∙ xor_mod (a / 2 ^ k) (b / 2 ^ k) 1

-- 0 times a number is 0
bit-zero : (s : ℕ) → 0 * s ≡ 0
bit-zero s = omega arith

-- 1 times a number is that number
bit-one : (s : ℕ) → 1 * s ≡ s
bit-one s = omega arith

-- a sum of bits times a number is the sum of both multiples
bits-times : (p q s : ℕ) → p < 2 → q < 2 → plus p q * s ≡ plus (p * s) (q * s)
bits-times zero zero s bit_p bit_q = simp (bit-zero, plus-zero)
bits-times zero (suc zero) s bit_p bit_q = simp (bit-zero, zero-plus)
bits-times (suc zero) zero s bit_p bit_q = simp (bit-zero, plus-zero)
bits-times (suc zero) (suc zero) s bit_p bit_q = simp (bit-zero, plus-self)
bits-times (suc (suc p)) q s bit_p bit_q = absurd (omega arith)
bits-times zero (suc (suc q)) s bit_p bit_q = absurd (omega arith)
bits-times (suc zero) (suc (suc q)) s bit_p bit_q = absurd (omega arith)

-- a bit times a sum is the sum of both multiples
bit-times-plus : (p s t : ℕ) → p < 2 → p * plus s t ≡ plus (p * s) (p * t)
bit-times-plus zero s t bit_p = simp (bit-zero, plus-zero)
bit-times-plus (suc zero) s t bit_p = simp bit-one
bit-times-plus (suc (suc p)) s t bit_p = absurd (omega arith)

-- a partial product by a sum is the sum of the partial products
partial_product-plus : (a b c n : ℕ) → partial_product a (plus b c) n ≡ plus (partial_product a b n) (partial_product a c n)
unfolding partial_product
partial_product-plus a b c zero = refl
partial_product-plus a b c (suc k) =
    let bits : bit_at (plus b c) k * shifted a k ≡ plus (bit_at b k * shifted a k) (bit_at c k * shifted a k) =
    ap (λ x. x * shifted a k) (bit_at-plus b c k) ∙ bits-times (bit_at b k) (bit_at c k) (shifted a k) (bit_at-lt b k) (bit_at-lt c k) in
    ap (λ x. plus x (bit_at (plus b c) k * shifted a k)) (partial_product-plus a b c k)
    ∙ ap (plus (plus (partial_product a b k) (partial_product a c k))) bits
    ∙ plus-pairs (partial_product a b k) (partial_product a c k) (bit_at b k * shifted a k) (bit_at c k * shifted a k)

-- They are linear in the first factor too: each shift is.

-- twice a number is the number shifted by one bit, with 0 after it
twice : (a : ℕ) → a * 2 ^ 1 + 0 ≡ 2 * a
twice a = omega arith

-- twice a sum is the sum of both doubles
twice-plus : (a b : ℕ) → 2 * plus a b ≡ plus (2 * a) (2 * b)
twice-plus a b =
    let block : plus (a * 2 ^ 1 + 0) (b * 2 ^ 1 + 0) ≡ plus a b * 2 ^ 1 + 0 = xor_block 1 a b 0 0 (omega arith) (omega arith) in
    cc (block, twice a, twice b, twice (plus a b))

-- a sum of bytes times x is the sum of both times x
shift-plus : (a b : ℕ) → a < 256 → b < 256 → shift (plus a b) ≡ plus (shift a) (shift b)
shift-plus a b byte_a byte_b =
    let low : 2 * (plus a b % 128) ≡ plus (2 * (a % 128)) (2 * (b % 128)) = ap (λ x. 2 * x) (xor_mod a b 7) ∙ twice-plus (a % 128) (b % 128) in
    let high : plus a b / 128 * 29 ≡ plus (a / 128 * 29) (b / 128 * 29) =
    ap (λ x. x * 29) (xor_shr a b 7) ∙ bits-times (a / 128) (b / 128) 29 (omega arith) (omega arith) in
    shift-parts (plus a b) (plus-byte a b byte_a byte_b) ∙ ap (λ x. plus x (plus a b / 128 * 29)) low ∙ ap (plus (plus (2 * (a % 128)) (2 * (b % 128)))) high
    ∙ plus-pairs (2 * (a % 128)) (2 * (b % 128)) (a / 128 * 29) (b / 128 * 29)
    ∙ ap (λ x. plus x (plus (2 * (b % 128)) (b / 128 * 29))) (sym (shift-parts a byte_a)) ∙ ap (plus (shift a)) (sym (shift-parts b byte_b))

-- a byte times a power of x is a byte
shifted-byte : (a k : ℕ) → a < 256 → shifted a k < 256
unfolding shifted
shifted-byte a zero byte_a = byte_a
shifted-byte a (suc k) byte_a = shift-byte (shifted a k) (shifted-byte a k byte_a)

-- a sum of bytes times a power of x is the sum of both times that power
shifted-plus : (a b k : ℕ) → a < 256 → b < 256 → shifted (plus a b) k ≡ plus (shifted a k) (shifted b k)
unfolding shifted
shifted-plus a b zero byte_a byte_b = refl
shifted-plus a b (suc k) byte_a byte_b =
    ap shift (shifted-plus a b k byte_a byte_b) ∙ shift-plus (shifted a k) (shifted b k) (shifted-byte a k byte_a) (shifted-byte b k byte_b)

-- a partial product of a sum is the sum of the partial products
plus-partial_product : (a b c n : ℕ) → a < 256 → b < 256 → partial_product (plus a b) c n ≡ plus (partial_product a c n) (partial_product b c n)
unfolding partial_product
plus-partial_product a b c zero byte_a byte_b = refl
plus-partial_product a b c (suc k) byte_a byte_b =
    let term : bit_at c k * shifted (plus a b) k ≡ plus (bit_at c k * shifted a k) (bit_at c k * shifted b k) =
    ap (λ x. bit_at c k * x) (shifted-plus a b k byte_a byte_b) ∙ bit-times-plus (bit_at c k) (shifted a k) (shifted b k) (bit_at-lt c k) in
    ap (λ x. plus x (bit_at c k * shifted (plus a b) k)) (plus-partial_product a b c k byte_a byte_b)
    ∙ ap (plus (plus (partial_product a c k) (partial_product b c k))) term
    ∙ plus-pairs (partial_product a c k) (partial_product b c k) (bit_at c k * shifted a k) (bit_at c k * shifted b k)

-- a bit times a byte is a byte
bit-times-byte : (p s : ℕ) → p < 2 → s < 256 → p * s < 256
bit-times-byte zero s bit_p byte_s = omega arith
bit-times-byte (suc zero) s bit_p byte_s = omega arith
bit-times-byte (suc (suc p)) s bit_p byte_s = absurd (omega arith)

-- a partial product of a byte is a byte
partial_product-byte : (a b n : ℕ) → a < 256 → partial_product a b n < 256
unfolding partial_product
partial_product-byte a b zero byte_a = omega arith
partial_product-byte a b (suc k) byte_a =
    plus-byte (partial_product a b k) (bit_at b k * shifted a k) (partial_product-byte a b k byte_a) (bit-times-byte (bit_at b k) (shifted a k) (bit_at-lt b k) (shifted-byte a k byte_a))

-- the lowest eight bits of a number are a byte
low_byte : (a : ℕ) → a % 256 < 256
low_byte a = omega arith

-- the lowest eight bits of a byte are that byte
low_byte-same : (a : ℕ) → a < 256 → a % 256 ≡ a
low_byte-same a byte_a = omega arith

-- Products.

-- a product is a byte
pub product-byte : (a b : ℕ) → product a b < 256
unfolding product
product-byte a b = partial_product-byte (a % 256) b 8 (low_byte a)

-- a product by a sum is the sum of the products
pub product-plus : (a b c : ℕ) → product a (plus b c) ≡ plus (product a b) (product a c)
unfolding product
product-plus a b c = partial_product-plus (a % 256) b c 8

-- a product of a sum is the sum of the products
pub plus-product : (a b c : ℕ) → product (plus a b) c ≡ plus (product a c) (product b c)
unfolding product
plus-product a b c =
    ap (λ x. partial_product x c 8) (xor_mod a b 8) ∙ plus-partial_product (a % 256) (b % 256) c 8 (low_byte a) (low_byte b)

-- a product by 0 is 0
pub product-zero : (a : ℕ) → product a 0 ≡ 0
product-zero a = plus-zero_double (product a 0) (ap (product a) (sym (plus-self 0)) ∙ product-plus a 0 0) where
  plus-zero_double : (x : ℕ) → x ≡ plus x x → x ≡ 0
  plus-zero_double x twice = twice ∙ plus-self x

-- a product of 0 is 0
pub zero-product : (a : ℕ) → product 0 a ≡ 0
zero-product a = plus-product 0 0 a ∙ plus-self (product 0 a)

-- Two functions that are linear and agree at the eight bits agree at each byte.

-- the function takes 0 to 0, and each sum to the sum of both values
record Linear (f : ℕ → ℕ) : Type 0 where
  at_zero : f 0 ≡ 0
  at_sum : (a b : ℕ) → f (plus a b) ≡ plus (f a) (f b)

-- a bit above all those of a number is added to it as numbers are
top_bit : (a k : ℕ) → a < 2 ^ k → plus a (2 ^ k) ≡ 2 ^ k + a
top_bit a k below =
    let block : plus (0 * 2 ^ k + a) (1 * 2 ^ k + 0) ≡ 1 * 2 ^ k + plus a 0 = xor_block k 0 1 a 0 below (omega (arith, below)) in
    let left : 0 * 2 ^ k + a ≡ a = omega arith in
    let right : 1 * 2 ^ k + 0 ≡ 2 ^ k = omega arith in
    let both : 1 * 2 ^ k + a ≡ 2 ^ k + a = omega arith in
    cc (block, left, right, both, plus-zero a)

-- linear functions that agree below 2^k and at 2^k agree on the numbers whose top bit is bit k
agree_with_top : (f g : ℕ → ℕ) → Linear f → Linear g → (k : ℕ) → f (2 ^ k) ≡ g (2 ^ k) → ((a : ℕ) → a < 2 ^ k → f a ≡ g a) → (a : ℕ) → 2 ^ k ≤ a → a < 2 ^ suc k → f a ≡ g a
agree_with_top f g linear_f linear_g k at_bit lower a upper below =
    let rest_below : a - 2 ^ k < 2 ^ k = omega (arith, pow-suc 2 k) in
    let split : plus (a - 2 ^ k) (2 ^ k) ≡ a = top_bit (a - 2 ^ k) k rest_below ∙ omega arith in
    cc (ap f split, ap g split, linear_f.at_sum (a - 2 ^ k) (2 ^ k), linear_g.at_sum (a - 2 ^ k) (2 ^ k), lower (a - 2 ^ k) rest_below, at_bit)

-- linear functions that agree at the eight bits agree on the numbers of k bits, for k up to 8
agree_below : (f g : ℕ → ℕ) → Linear f → Linear g → ((k : ℕ) → k < 8 → f (2 ^ k) ≡ g (2 ^ k)) → (k : ℕ) → k ≤ 8 → (a : ℕ) → a < 2 ^ k → f a ≡ g a
agree_below f g linear_f linear_g at_bits zero within a below =
    let is_zero : a ≡ 0 = omega arith in
    ap f is_zero ∙ linear_f.at_zero ∙ sym linear_g.at_zero ∙ ap g (sym is_zero)
agree_below f g linear_f linear_g at_bits (suc k) within a below =
    let lower = λ (x : ℕ) (below_x : x < 2 ^ k). agree_below f g linear_f linear_g at_bits k (omega arith) x below_x in
    elim (cases_lt a (2 ^ k)) [ inl below_k ↦ lower a below_k | inr upper ↦ agree_with_top f g linear_f linear_g k (at_bits k within) lower a upper below ]

-- linear functions that agree at the eight bits agree at each byte
agree : (f g : ℕ → ℕ) → Linear f → Linear g → ((k : ℕ) → k < 8 → f (2 ^ k) ≡ g (2 ^ k)) → (a : ℕ) → a < 256 → f a ≡ g a
agree f g linear_f linear_g at_bits a byte_a = agree_below f g linear_f linear_g at_bits 8 (omega arith) a byte_a

-- to multiply a fixed number by the argument is linear
linear-left : (a : ℕ) → Linear (product a)
linear-left a = record { at_zero = product-zero a; at_sum = product-plus a }

-- to multiply the argument by a fixed number is linear
linear-right : (a : ℕ) → Linear (λ x. product x a)
linear-right a = record { at_zero = zero-product a; at_sum = λ x y. plus-product x y a }

-- the order of the factors doesn't matter where both are bytes, one of them a single bit
product-bit-comm : (a k : ℕ) → a < 256 → k < 8 → product a (2 ^ k) ≡ product (2 ^ k) a
product-bit-comm a k byte_a below = agree (λ x. product x (2 ^ k)) (product (2 ^ k)) (linear-right (2 ^ k)) (linear-left (2 ^ k)) (λ j below_j. product-bits j below_j k below) a byte_a

-- the order of the factors doesn't matter where both are bytes
bytes-comm : (a b : ℕ) → a < 256 → b < 256 → product a b ≡ product b a
bytes-comm a b byte_a byte_b = agree (product a) (λ x. product x a) (linear-left a) (linear-right a) (λ k below. product-bit-comm a k byte_a below) b byte_b

-- a product reads the lowest eight bits of its first factor alone
product-low_left : (a b : ℕ) → product (a % 256) b ≡ product a b
unfolding product
product-low_left a b = ap (λ x. partial_product x b 8) (low_byte-same (a % 256) (low_byte a))

-- a sum over at most eight bits of a factor reads its lowest eight bits alone
partial_product-low : (a b n : ℕ) → n ≤ 8 → partial_product a (b % 256) n ≡ partial_product a b n
unfolding partial_product
partial_product-low a b zero within = refl
partial_product-low a b (suc k) within =
    let bit : bit_at (b % 256) k ≡ bit_at b k = sym (bit_at_cat_low (b / 256) 8 (b % 256) k within) ∙ ap (λ x. bit_at x k) (omega arith) in
    ap (λ x. plus x (bit_at (b % 256) k * shifted a k)) (partial_product-low a b k (omega arith)) ∙ ap (λ x. plus (partial_product a b k) (x * shifted a k)) bit

-- a product reads the lowest eight bits of its second factor alone
product-low_right : (a b : ℕ) → product a (b % 256) ≡ product a b
unfolding product
product-low_right a b = partial_product-low (a % 256) b 8 (omega arith)

-- the order of the factors doesn't matter
pub product-comm : (a b : ℕ) → product a b ≡ product b a
product-comm a b =
    sym (product-low_left a b) ∙ sym (product-low_right (a % 256) b) ∙ bytes-comm (a % 256) (b % 256) (low_byte a) (low_byte b)
    ∙ product-low_left b (a % 256) ∙ product-low_right b a

-- Products are associative: to multiply is to shift and to add.

-- 0 times x is 0
shift-zero : shift 0 ≡ 0
unfolding shift
shift-zero = refl

-- a bit times a number, then times x, is the number times x, then times the bit
bit-times-shift : (p s : ℕ) → p < 2 → shift (p * s) ≡ p * shift s
bit-times-shift zero s bit_p = simp (bit-zero, shift-zero)
bit-times-shift (suc zero) s bit_p = simp bit-one
bit-times-shift (suc (suc p)) s bit_p = absurd (omega arith)

-- a factor x comes out of a partial product
partial_product-shift : (a b n : ℕ) → a < 256 → partial_product (shift a) b n ≡ shift (partial_product a b n)
unfolding partial_product
partial_product-shift a b zero byte_a = sym shift-zero
partial_product-shift a b (suc k) byte_a =
    let term : bit_at b k * shifted (shift a) k ≡ shift (bit_at b k * shifted a k) =
    ap (λ x. bit_at b k * x) (shifted-after_shift a k) ∙ sym (bit-times-shift (bit_at b k) (shifted a k) (bit_at-lt b k)) in
    ap (λ x. plus x (bit_at b k * shifted (shift a) k)) (partial_product-shift a b k byte_a) ∙ ap (plus (shift (partial_product a b k))) term
    ∙ sym (shift-plus (partial_product a b k) (bit_at b k * shifted a k) (partial_product-byte a b k byte_a) (bit-times-byte (bit_at b k) (shifted a k) (bit_at-lt b k) (shifted-byte a k byte_a)))

-- a factor x of a byte comes out of a product
shift-product : (a b : ℕ) → a < 256 → product (shift a) b ≡ shift (product a b)
unfolding product
shift-product a b byte_a =
    ap (λ x. partial_product x b 8) (low_byte-same (shift a) (shift-byte a byte_a)) ∙ partial_product-shift a b 8 byte_a
    ∙ ap (λ x. shift (partial_product x b 8)) (sym (low_byte-same a byte_a))

-- a factor x^k of a byte comes out of a product
shifted-product : (a b k : ℕ) → a < 256 → product (shifted a k) b ≡ shifted (product a b) k
unfolding shifted
shifted-product a b zero byte_a = refl
shifted-product a b (suc k) byte_a = shift-product (shifted a k) b (shifted-byte a k byte_a) ∙ ap shift (shifted-product a b k byte_a)

-- a factor that is one bit comes out of a product
bit-times-product : (p s c : ℕ) → p < 2 → product (p * s) c ≡ p * product s c
bit-times-product zero s c bit_p = simp (bit-zero, zero-product)
bit-times-product (suc zero) s c bit_p = simp bit-one
bit-times-product (suc (suc p)) s c bit_p = absurd (omega arith)

-- a partial product times c is the partial product of a times c
partial_product-product : (a b c n : ℕ) → a < 256 → product (partial_product a b n) c ≡ partial_product (product a c) b n
unfolding partial_product
partial_product-product a b c zero byte_a = zero-product c
partial_product-product a b c (suc k) byte_a =
    plus-product (partial_product a b k) (bit_at b k * shifted a k) c
    ∙ ap (plus (product (partial_product a b k) c)) (bit-times-product (bit_at b k) (shifted a k) c (bit_at-lt b k) ∙ ap (λ x. bit_at b k * x) (shifted-product a c k byte_a))
    ∙ ap (λ x. plus x (bit_at b k * shifted (product a c) k)) (partial_product-product a b c k byte_a)

-- the middle factor comes out first
product-swap : (a b c : ℕ) → product (product a b) c ≡ product (product a c) b
unfolding product
product-swap a b c =
    partial_product-product (a % 256) b c 8 (low_byte a)
    ∙ ap (λ x. partial_product x b 8) (product-low_left a c)
    ∙ ap (λ x. partial_product x b 8) (sym (low_byte-same (product a c) (product-byte a c)))

-- the grouping of factors doesn't matter
pub product-assoc : (a b c : ℕ) → product (product a b) c ≡ product a (product b c)
product-assoc a b c = ap (λ x. product x c) (product-comm a b) ∙ product-swap b a c ∙ product-comm (product b c) a

-- a product of products is made factor by factor
pub product-pairs : (a b c d : ℕ) → product (product a b) (product c d) ≡ product (product a c) (product b d)
product-pairs a b c d =
    product-assoc a b (product c d) ∙ ap (product a) (sym (product-assoc b c d) ∙ ap (λ x. product x d) (product-comm b c) ∙ product-assoc c b d) ∙ sym (product-assoc a c (product b d))

-- a byte times 1 is that byte
pub product-one : (a : ℕ) → a < 256 → product a 1 ≡ a
product-one a byte_a = product-by_one a byte_a

-- 1 times a byte is that byte
pub one-product : (a : ℕ) → a < 256 → product 1 a ≡ a
one-product a byte_a = product-comm 1 a ∙ product-one a byte_a

-- each byte but 0 has an inverse
pub product-inverse_of : (a : ℕ) → a < 256 → a ≢ 0 → product a (inverse a) ≡ 1
product-inverse_of zero byte_a nonzero = absurd (nonzero refl)
product-inverse_of (suc a) byte_a nonzero = product-inverse a (omega arith)

-- an inverse is a byte
pub inverse-byte : (a : ℕ) → inverse a < 256
unfolding inverse inverse_by inverse_from
inverse-byte a = product-byte _ _

-- a factor that isn't 0 cancels
pub product-cancel : (a b c : ℕ) → a < 256 → b < 256 → c < 256 → a ≢ 0 → product a b ≡ product a c → b ≡ c
product-cancel a b c byte_a byte_b byte_c nonzero same = sym (back b byte_b) ∙ ap (product (inverse a)) same ∙ back c byte_c where
  back : (x : ℕ) → x < 256 → product (inverse a) (product a x) ≡ x
  back x byte_x = sym (product-assoc (inverse a) a x) ∙ ap (λ y. product y x) (product-comm (inverse a) a ∙ product-inverse_of a byte_a nonzero) ∙ one-product x byte_x

-- a product is 0 only where a factor is
pub product-zero_factor : (a b : ℕ) → a < 256 → b < 256 → product a b ≡ 0 → (a ≡ 0) ⊎ (b ≡ 0)
product-zero_factor zero b byte_a byte_b product_is = inl refl
product-zero_factor (suc a) b byte_a byte_b product_is =
    inr (product-cancel (suc a) b 0 byte_a byte_b (omega arith) (omega arith) (product_is ∙ sym (product-zero (suc a))))

-- Powers.

-- the power with the exponent 0 is 1
pub power-zero : (a : ℕ) → power a 0 ≡ 1
unfolding power
power-zero a = refl

-- one more in the exponent is one more factor
pub power-suc : (a k : ℕ) → power a (suc k) ≡ product (power a k) a
unfolding power
power-suc a k = refl

-- a power is a byte
pub power-byte : (a k : ℕ) → power a k < 256
unfolding power
power-byte a zero = omega arith
power-byte a (suc k) = product-byte (power a k) a

-- a sum of exponents is a product of powers
pub power-add : (a j k : ℕ) → power a (j + k) ≡ product (power a j) (power a k)
power-add a j zero =
    let same : j + 0 ≡ j = omega arith in
    ap (power a) same ∙ sym (product-one (power a j) (power-byte a j)) ∙ ap (product (power a j)) (sym (power-zero a))
power-add a j (suc k) =
    let same : j + suc k ≡ suc (j + k) = omega arith in
    ap (power a) same ∙ power-suc a (j + k) ∙ ap (λ x. product x a) (power-add a j k) ∙ product-assoc (power a j) (power a k) a
    ∙ ap (product (power a j)) (sym (power-suc a k))

-- each power of 1 is 1
pub one-power : (k : ℕ) → power 1 k ≡ 1
one-power zero = power-zero 1
one-power (suc k) = power-suc 1 k ∙ product-one (power 1 k) (power-byte 1 k) ∙ one-power k

-- no power of a byte other than 0 is 0
pub power-nonzero : (a k : ℕ) → a < 256 → a ≢ 0 → power a k ≢ 0
power-nonzero a zero byte_a nonzero is_zero = absurd (omega (arith, power-zero a))
power-nonzero a (suc k) byte_a nonzero is_zero =
    elim (product-zero_factor (power a k) a (power-byte a k) byte_a (sym (power-suc a k) ∙ is_zero)) [ inl e ↦ power-nonzero a k byte_a nonzero e | inr e ↦ nonzero e ]

-- Powers of alpha.

-- a power of alpha is 1, shifted
pub power-alpha-shifted : (k : ℕ) → power alpha k ≡ shifted 1 k
unfolding shifted
power-alpha-shifted zero = power-zero alpha
power-alpha-shifted (suc k) = power-suc alpha k ∙ product-alpha (power alpha k) (power-byte alpha k) ∙ ap shift (power-alpha-shifted k)

-- alpha to the power 255 is 1
pub power-alpha-255 : power alpha 255 ≡ 1
power-alpha-255 = power-alpha-shifted 255 ∙ shifted-one-255

-- no power of alpha with an exponent from 1 to 254 is 1
power-alpha-below : (k : ℕ) → 0 < k → k < 255 → power alpha k ≢ 1
power-alpha-below zero positive below is_one = absurd (omega arith)
power-alpha-below (suc k) positive below is_one = shifted-one-below k (omega arith) (sym (power-alpha-shifted (suc k)) ∙ is_one)

-- alpha isn't 0
pub alpha-nonzero : alpha ≢ 0
alpha-nonzero e = absurd (omega arith)

-- two powers of alpha whose exponents differ and are below 255 differ
power-alpha-later : (i j : ℕ) → i < j → j < 255 → power alpha i ≢ power alpha j
power-alpha-later i j later below same =
    let sum : i + (j - i) ≡ j = omega arith in
    let whole : product (power alpha i) (power alpha (j - i)) ≡ product (power alpha i) 1 =
    sym (power-add alpha i (j - i)) ∙ ap (power alpha) sum ∙ sym same ∙ sym (product-one (power alpha i) (power-byte alpha i)) in
    power-alpha-below (j - i) (omega arith) (omega arith)
    (product-cancel (power alpha i) (power alpha (j - i)) 1 (power-byte alpha i) (power-byte alpha (j - i)) (omega arith)
    (power-nonzero alpha i (omega arith) alpha-nonzero) whole)

-- the first 255 powers of alpha differ
pub power-alpha-differ : (i j : ℕ) → i < 255 → j < 255 → power alpha i ≡ power alpha j → i ≡ j
power-alpha-differ i j below_i below_j same =
    elim (cases_lt i j) [
      | inl later ↦ absurd (power-alpha-later i j later below_j same)
      | inr not_later ↦
          elim (cases_lt j i) [ inl later ↦ absurd (power-alpha-later j i later below_i (sym same)) | inr not_earlier ↦ omega arith ]
    ]

-- a product of exponents is a power of a power
pub power-mul : (a j k : ℕ) → power a (j * k) ≡ power (power a j) k
power-mul a j zero =
    let none : j * 0 ≡ 0 = omega arith in
    ap (power a) none ∙ power-zero a ∙ sym (power-zero (power a j))
power-mul a j (suc k) =
    let more : j * suc k ≡ j * k + j = omega arith in
    ap (power a) more ∙ power-add a (j * k) j ∙ ap (λ x. product x (power a j)) (power-mul a j k) ∙ sym (power-suc (power a j) k)

-- two exponents, one after the other, may change places
pub power-swap : (a j k : ℕ) → power (power a j) k ≡ power (power a k) j
power-swap a j k =
    let same : j * k ≡ k * j = omega arith in
    sym (power-mul a j k) ∙ ap (power a) same ∙ power-mul a k j

-- a byte to the power 1 is that byte
pub power-one : (a : ℕ) → a < 256 → power a 1 ≡ a
power-one a byte_a = power-suc a 0 ∙ ap (λ x. product x a) (power-zero a) ∙ one-product a byte_a

-- a power of a product is the product of the powers
pub product-power : (a b k : ℕ) → power (product a b) k ≡ product (power a k) (power b k)
product-power a b zero =
    power-zero (product a b) ∙ sym (product-one 1 (omega arith)) ∙ ap (product 1) (sym (power-zero b)) ∙ ap (λ x. product x (power b 0)) (sym (power-zero a))
product-power a b (suc k) =
    power-suc (product a b) k ∙ ap (λ x. product x (product a b)) (product-power a b k)
    ∙ product-pairs (power a k) (power b k) a b
    ∙ ap (λ x. product x (product (power b k) b)) (sym (power-suc a k)) ∙ ap (product (power a (suc k))) (sym (power-suc b k))

-- the exponent of alpha counts by its rest alone
pub power-alpha-mod : (k : ℕ) → power alpha (k % 255) ≡ power alpha k
power-alpha-mod k =
    let split : 255 * (k / 255) + k % 255 ≡ k = omega arith in
    sym (one-product (power alpha (k % 255)) (power-byte alpha (k % 255)))
    ∙ ap (λ x. product x (power alpha (k % 255))) (sym (power-mul alpha 255 (k / 255) ∙ ap (λ x. power x (k / 255)) power-alpha-255 ∙ one-power (k / 255)))
    ∙ sym (power-add alpha (255 * (k / 255)) (k % 255)) ∙ ap (power alpha) split

-- each byte but 0 is a power of alpha below the 255th
pub power-alpha-logarithm : (a : ℕ) → a < 256 → a ≢ 0 → (logarithm a < 255) × (power alpha (logarithm a) ≡ a)
power-alpha-logarithm zero byte_a nonzero = absurd (nonzero refl)
power-alpha-logarithm (suc a) byte_a nonzero =
    let table = shifted-logarithm a (omega arith) in
    (table.0, power-alpha-shifted (logarithm (suc a)) ∙ table.1)

-- The laws of sum and product as a set for `grind`, which proves equations of up to about five terms by them.
pub ruleset field = (plus-comm, plus-assoc, plus-zero, zero-plus, plus-self, product-comm, product-assoc, product-plus, plus-product, product-zero, zero-product)

-- ---- what the module `laws` promises

-- each byte but 0 has an inverse
pub has_inverse : (a : ℕ) → a < 256 → a ≢ 0 → HasInverse a
has_inverse a byte_a nonzero = (inverse a, inverse-byte a, product-inverse_of a byte_a nonzero)

-- each byte but 0 is one of the first 255 powers of alpha
pub is_power_of_alpha : (a : ℕ) → a < 256 → a ≢ 0 → IsPowerOfAlpha a
is_power_of_alpha a byte_a nonzero = (logarithm a, (power-alpha-logarithm a byte_a nonzero).0, (power-alpha-logarithm a byte_a nonzero).1)

-- the laws of the field under one name
pub ruleset laws = (field, plus-byte, product-byte, product-one, product-zero_factor, power-alpha-differ, power-alpha-255, has_inverse, is_power_of_alpha)
