-- Lists of bits: which numbers they are, and how they shift and add.
use Rattle.std.proofs.Common.{◌≡◌, ℕ, zero, suc, ◌+◌, ◌*◌, ◌/◌, ◌%◌, ◌^◌, ◌<◌, List, [], ◌∷◌, ◌++◌, length, refl, sym, ◌∙◌, ap, zero-add, arith}
use Rattle.std.specs.Prelude.{bit_xor, fold}
use Rattle.std.specs.Int.{bit_at}
use Rattle.std.proofs.lemmas.Nat.{xor_lt, field_of, mod-pow-add, pow-add}
use Rattle.std.proofs.Math.Nat.{pow-suc, div-div-eq-div-mul}
use Rattle.std.proofs.Math.Pow.{mod-mod-pow}
use Rattle.std.proofs.lemmas.Nat.Bits.{bit_at_xor, bit_at-lt, bit_at-suc, bit_at_lowest}
use Rattle.coding.specs.BitDivision.{plus_prefix}
use Rattle.coding.specs.Bits.{bits, number_of}

-- the lowest n bits of a number are n bits
pub length-bits : (n number : ℕ) → length (bits n number) ≡ n
unfolding bits
length-bits zero number = refl
length-bits (suc n) number = ap suc (length-bits n number)

-- the sum of two bits
pub xor_bits : (a b : ℕ) → a < 2 → b < 2 → bit_xor a b ≡ (a + b) % 2
xor_bits a b bit_a bit_b =
    let below : bit_xor a b < 2 = xor_lt 1 a b bit_a bit_b in
    omega (arith, bit_at_xor a b 0)

-- the bits of two numbers add up to those of their sum
pub plus_prefix-bits : (n a b : ℕ) → plus_prefix (bits n a) (bits n b) ≡ bits n (bit_xor a b)
unfolding bits plus_prefix
plus_prefix-bits zero a b = refl
plus_prefix-bits (suc n) a b =
    ap (λ (bit : ℕ). bit ∷ plus_prefix (bits n a) (bits n b)) (xor_bits (bit_at a n) (bit_at b n) (bit_at-lt a n) (bit_at-lt b n) ∙ sym (bit_at_xor a b n))
    ∙ ap (λ (rest : List ℕ). bit_at (bit_xor a b) n ∷ rest) (plus_prefix-bits n a b)

-- one bit more at the end
pub bits_more : (n number bit : ℕ) → bit < 2 → bits (suc n) (2 * number + bit) ≡ bits n number ++ bit ∷ []
unfolding bits
bits_more zero number bit is_bit =
    let lowest : bit_at (2 * number + bit) 0 ≡ bit = omega (arith, bit_at_lowest (2 * number + bit)) in
    ap (λ (b : ℕ). b ∷ []) lowest
bits_more (suc n) number bit is_bit =
    let half : (2 * number + bit) / 2 ≡ number = omega arith in
    let here : bit_at (2 * number + bit) (suc n) ≡ bit_at number n = bit_at-suc (2 * number + bit) n ∙ ap (λ (x : ℕ). bit_at x n) half in
    ap (λ (b : ℕ). b ∷ bits (suc n) (2 * number + bit)) here ∙ ap (λ (rest : List ℕ). bit_at number n ∷ rest) (bits_more n number bit is_bit)

-- a number's bits below place m are those of its rest modulo 2^m
bit_at-mod : (number j i : ℕ) → bit_at (number % 2 ^ (suc j + i)) i ≡ bit_at number i
bit_at-mod number j i =
    ap (λ (x : ℕ). x % 2) (field_of number (suc j) i)
    ∙ (let shape : j + 1 ≡ suc j = omega arith in
    ap (λ (k : ℕ). number / 2 ^ i % 2 ^ k % 2) (sym shape) ∙ mod-mod-pow (number / 2 ^ i) j 1)

-- the lowest n bits don't know those above place k + n
bits-mod_above : (k n number : ℕ) → bits n (number % 2 ^ (k + n)) ≡ bits n number
unfolding bits
bits-mod_above k zero number = refl
bits-mod_above k (suc n) number =
    let shape : k + suc n ≡ suc k + n = omega arith in
    ap (λ (m : ℕ). bits (suc n) (number % 2 ^ m)) shape
    ∙ ap (λ (b : ℕ). b ∷ bits n (number % 2 ^ (suc k + n))) (bit_at-mod number k n)
    ∙ ap (λ (rest : List ℕ). bit_at number n ∷ rest) (bits-mod_above (suc k) n number)

-- bits above the lowest n don't show
pub bits-mod : (n number : ℕ) → bits n (number % 2 ^ n) ≡ bits n number
bits-mod n number =
    let shape : 0 + n ≡ n = omega arith in
    ap (λ (m : ℕ). bits n (number % 2 ^ m)) (sym shape) ∙ bits-mod_above 0 n number

-- a start with one bit more after it, times a power of two, part by part
spread : (start bit power : ℕ) → (2 * start + bit) * power ≡ start * (2 * power) + bit * power
spread start bit power = omega arith

-- bits read after a start: the start moves up by n places, and the number's rest comes after it
pub fold-bits : (n number start : ℕ) → fold (λ (a x : ℕ). 2 * a + x) start (bits n number) ≡ start * 2 ^ n + number % 2 ^ n
unfolding bits
fold-bits zero number start = omega arith
fold-bits (suc n) number start =
    fold-bits n number (2 * start + bit_at number n)
    ∙ (let power : 2 ^ suc n ≡ 2 * 2 ^ n = omega (arith, pow-suc 2 n) in
    let shape : 1 + n ≡ suc n = omega arith in
    let split : number % 2 ^ suc n ≡ bit_at number n * 2 ^ n + number % 2 ^ n = ap (λ (m : ℕ). number % 2 ^ m) (sym shape) ∙ mod-pow-add number 1 n in
    omega (arith, split, ap (λ (p : ℕ). start * p) power, spread start (bit_at number n) (2 ^ n)))

-- the lowest n bits of a number are those of its rest modulo 2^n
pub number_of-bits : (n number : ℕ) → number_of (bits n number) ≡ number % 2 ^ n
number_of-bits n number = omega (arith, fold-bits n number 0)

-- bits above place m, and those below it
pub bits-split : (n m number : ℕ) → bits (n + m) number ≡ bits n (number / 2 ^ m) ++ bits m number
unfolding bits
bits-split zero m number = ap (λ (k : ℕ). bits k number) (zero-add m)
bits-split (suc n) m number =
    let more : suc n + m ≡ suc (n + m) = omega arith in
    let order : n + m ≡ m + n = omega arith in
    let here : bit_at number (n + m) ≡ bit_at (number / 2 ^ m) n =
    ap (λ (k : ℕ). number / 2 ^ k % 2) order ∙ ap (λ (d : ℕ). number / d % 2) (pow-add 2 m n) ∙ ap (λ (q : ℕ). q % 2) (sym (div-div-eq-div-mul number (2 ^ m) (2 ^ n))) in
    ap (λ (k : ℕ). bits k number) more
    ∙ ap (λ (b : ℕ). b ∷ bits (n + m) number) here ∙ ap (λ (rest : List ℕ). bit_at (number / 2 ^ m) n ∷ rest) (bits-split n m number)
