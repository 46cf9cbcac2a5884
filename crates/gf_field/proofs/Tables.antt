-- What the checker finds out of the field by computing, for each byte in turn.
use Rattle.std.proofs.Common.{◌≡◌, ◌≢◌, ℕ, zero, suc, ◌*◌, ◌/◌, ◌%◌, ◌^◌, ◌<◌, Bool, true, not, ◌&&◌, ◌==◌, if◌then◌else◌, List, [], ◌∷◌, get_or, refl, ap, ◌∙◌, arith}
use Rattle.std.specs.Prelude.{nat_lt}
use Rattle.std.specs.Bool.{Decides}
use Rattle.std.proofs.lemmas.Bool.Decides.{Decides-eqb, Decides-not, Decides-and, Decides-ltb, Decides-below_and}
use Rattle.coding.specs.Field.{alpha, plus, shift, shifted, partial_product, product}
use Rattle.gf_field.specs.declared.powers.TheConstants.{POWERS, LOGARITHMS}

-- a test holds of each number below n
pub every : (ℕ → Bool) → ℕ → Bool
every test zero = true
every test (suc n) = test n && every test n

-- a test that came out true for each number below n shows the fact that it decides
every-holds : (test : ℕ → Bool) (Fact : ℕ → Type 0) → ((k : ℕ) → Decides (test k) (Fact k)) → (n : ℕ) → every test n ≡ true → (k : ℕ) → k < n → Fact k
unfolding every
every-holds test Fact each n holds = (Decides-below_and test Fact (every test) each refl (λ _. refl) n).0 holds

-- ---- shifts

-- a byte times x, by its upper bit and the others
pub shift-parts : (a : ℕ) → a < 256 → shift a ≡ plus (2 * (a % 128)) (a / 128 * 29)
unfolding every shift
shift-parts = every-holds (λ a. shift a == plus (2 * (a % 128)) (a / 128 * 29)) (λ a. shift a ≡ plus (2 * (a % 128)) (a / 128 * 29)) (λ a. Decides-eqb (shift a) (plus (2 * (a % 128)) (a / 128 * 29))) 256 refl

-- a byte times x is a byte
pub shift-byte : (a : ℕ) → a < 256 → shift a < 256
unfolding every shift
shift-byte = every-holds (λ a. nat_lt (shift a) 256) (λ a. shift a < 256) (λ a. Decides-ltb (shift a) 256) 256 refl

-- ---- products

-- a byte times alpha is that byte times x
pub product-alpha : (a : ℕ) → a < 256 → product a alpha ≡ shift a
unfolding every product partial_product shifted shift
product-alpha = every-holds (λ a. product a alpha == shift a) (λ a. product a alpha ≡ shift a) (λ a. Decides-eqb (product a alpha) (shift a)) 256 refl

-- a byte times 1 is that byte
pub product-by_one : (a : ℕ) → a < 256 → product a 1 ≡ a
unfolding every product partial_product shifted shift
product-by_one = every-holds (λ a. product a 1 == a) (λ a. product a 1 ≡ a) (λ a. Decides-eqb (product a 1) a) 256 refl

-- whether x^i times x^j is x^j times x^i
commutes : ℕ → ℕ → Bool
commutes i j = product (2 ^ i) (2 ^ j) == product (2 ^ j) (2 ^ i)

-- two powers of two below 256 may change places in a product
pub product-bits : (i : ℕ) → i < 8 → (j : ℕ) → j < 8 → product (2 ^ i) (2 ^ j) ≡ product (2 ^ j) (2 ^ i)
unfolding every commutes product partial_product shifted shift
product-bits i below_i = every-holds (commutes i) (λ j. product (2 ^ i) (2 ^ j) ≡ product (2 ^ j) (2 ^ i)) (λ j. Decides-eqb (product (2 ^ i) (2 ^ j)) (product (2 ^ j) (2 ^ i))) 8
    (every-holds (λ i. every (commutes i) 8) (λ i. every (commutes i) 8 ≡ true) (λ i. ((λ holds. holds), (λ holds. holds))) 8 refl i below_i)

-- ---- inverses

-- a byte to the power 2
unfoldable pub square : ℕ → ℕ
square a = product a a

-- a byte to the power 4
unfoldable pub fourth_power : ℕ → ℕ
fourth_power a = square (square a)

-- a^254 from a^2, a^3 and a^12, by way of a^15, a^240 and a^252
unfoldable pub inverse_from : ℕ → ℕ → ℕ → ℕ
inverse_from power_2 power_3 power_12 = product (product (fourth_power (fourth_power (product power_12 power_3))) power_12) power_2

-- a^254 from a^2 and a^3, since a^12 is the fourth power of a^3
unfoldable pub inverse_by : ℕ → ℕ → ℕ
inverse_by power_2 power_3 = inverse_from power_2 power_3 (fourth_power power_3)

-- a^254, which is the inverse of a byte other than 0
unfoldable pub inverse : ℕ → ℕ
inverse a = inverse_by (square a) (product (square a) a)

-- a byte other than 0 times its power 254 is 1
pub product-inverse : (a : ℕ) → a < 255 → product (suc a) (inverse (suc a)) ≡ 1
unfolding every inverse inverse_by inverse_from fourth_power square product partial_product shifted shift
product-inverse = every-holds (λ a. product (suc a) (inverse (suc a)) == 1) (λ a. product (suc a) (inverse (suc a)) ≡ 1) (λ a. Decides-eqb (product (suc a) (inverse (suc a))) 1) 255 refl

-- ---- powers of alpha

-- 1 shifted 255 times is 1 again
pub shifted-one-255 : shifted 1 255 ≡ 1
unfolding shifted shift
shifted-one-255 = refl

-- no shift of 1 below the 255th is 1 again
pub shifted-one-below : (k : ℕ) → k < 254 → shifted 1 (suc k) ≢ 1
unfolding every shifted shift
shifted-one-below = every-holds (λ k. not (shifted 1 (suc k) == 1)) (λ k. shifted 1 (suc k) ≢ 1) (λ k. Decides-not (shifted 1 (suc k) == 1) (Decides-eqb (shifted 1 (suc k)) 1)) 254 refl

-- how many shifts, up to n of them, bring x to a
pub shifts_to : ℕ → ℕ → ℕ → ℕ
shifts_to a x zero = 0
shifts_to a x (suc n) = if x == a then 0 else suc (shifts_to a (shift x) n)

-- how many shifts bring 1 to a
pub logarithm : ℕ → ℕ
logarithm a = shifts_to a 1 255

-- each byte but 0 is 1 shifted by its logarithm, which is below 255
pub shifted-logarithm : (a : ℕ) → a < 255 → (logarithm (suc a) < 255) × (shifted 1 (logarithm (suc a)) ≡ suc a)
unfolding every logarithm shifts_to shifted shift
shifted-logarithm = every-holds (λ a. nat_lt (logarithm (suc a)) 255 && shifted 1 (logarithm (suc a)) == suc a) (λ a. (logarithm (suc a) < 255) × (shifted 1 (logarithm (suc a)) ≡ suc a))
    (λ a. Decides-and (nat_lt (logarithm (suc a)) 255) (shifted 1 (logarithm (suc a)) == suc a) (Decides-ltb (logarithm (suc a)) 255) (Decides-eqb (shifted 1 (logarithm (suc a))) (suc a))) 255 refl

-- ---- the tables of the program

-- n numbers, from a on, each the one before it times x
shifts_from : ℕ → ℕ → List ℕ
shifts_from a zero = []
shifts_from a (suc n) = a ∷ shifts_from (shift a) n

-- a further factor x may come first or last
pub shifted-after_shift : (a k : ℕ) → shifted (shift a) k ≡ shift (shifted a k)
unfolding shifted
shifted-after_shift a zero = refl
shifted-after_shift a (suc k) = ap shift (shifted-after_shift a k)

-- place k of such a list is the first number shifted k times
get_or-shifts_from : (a n k : ℕ) → k < n → get_or (shifts_from a n) k 0 ≡ shifted a k
unfolding shifts_from shifted
get_or-shifts_from a zero k below = absurd (omega arith)
get_or-shifts_from a (suc n) zero below = refl
get_or-shifts_from a (suc n) (suc k) below = get_or-shifts_from (shift a) n k (omega arith) ∙ shifted-after_shift a k

-- the program's table of powers is 510 shifts from 1 on
POWERS-whole : POWERS ≡ shifts_from 1 510
unfolding shifts_from shift
POWERS-whole = refl

-- place k of the table of powers is 1 shifted k times
pub POWERS-shifted : (k : ℕ) → k < 510 → get_or POWERS k 0 ≡ shifted 1 k
POWERS-shifted k below = ap (λ powers. get_or powers k 0) POWERS-whole ∙ get_or-shifts_from 1 510 k below

-- 1 shifted by the table's entry for a byte other than 0 is that byte, and the entry is below 255
pub LOGARITHMS-shifted : (a : ℕ) → a < 255 → (get_or LOGARITHMS (suc a) 0 < 255) × (shifted 1 (get_or LOGARITHMS (suc a) 0) ≡ suc a)
unfolding every shifted shift
LOGARITHMS-shifted = every-holds (λ a. nat_lt (get_or LOGARITHMS (suc a) 0) 255 && shifted 1 (get_or LOGARITHMS (suc a) 0) == suc a) (λ a. (get_or LOGARITHMS (suc a) 0 < 255) × (shifted 1 (get_or LOGARITHMS (suc a) 0) ≡ suc a))
    (λ a. Decides-and (nat_lt (get_or LOGARITHMS (suc a) 0) 255) (shifted 1 (get_or LOGARITHMS (suc a) 0) == suc a) (Decides-ltb (get_or LOGARITHMS (suc a) 0) 255) (Decides-eqb (shifted 1 (get_or LOGARITHMS (suc a) 0)) (suc a))) 255 refl
