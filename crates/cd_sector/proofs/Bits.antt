-- Lists of bits: what they represent, and how they add.
use Rattle.std.proofs.Common.{◌≡◌, ℕ, zero, suc, ◌/◌, ◌%◌, ◌^◌, ◌<◌, List, [], ◌∷◌, length, refl, sym, ◌∙◌, ap, ap₂, arith}
use Rattle.std.specs.Prelude.{bit_xor, replicate}
use Rattle.std.specs.Int.Bits.{xor_zero_l, xor_zero_r}
use Rattle.std.proofs.lemmas.Nat.{xor_shr, xor_mod}
use Rattle.std.proofs.Math.Nat.{pow-suc}
use Rattle.coding.specs.BitDivision.{plus_prefix}
use Rattle.cd_sector.specs.Bits.{rising_bits, rising_number}

-- the lowest n bits of a number are n bits
pub length-rising_bits : (n number : ℕ) → length (rising_bits n number) ≡ n
unfolding rising_bits
length-rising_bits zero number = refl
length-rising_bits (suc n) number = ap suc (length-rising_bits n (number / 2))

-- the sum of two numbers, halved
pub xor_half : (a b : ℕ) → bit_xor a b / 2 ≡ bit_xor (a / 2) (b / 2)
xor_half a b = xor_shr a b 1

-- its lowest bit
pub xor_lowest : (a b : ℕ) → bit_xor a b % 2 ≡ bit_xor (a % 2) (b % 2)
xor_lowest a b = xor_mod a b 1

-- the bits of two numbers add up to those of their sum
pub plus_prefix-rising_bits : (n a b : ℕ) → plus_prefix (rising_bits n a) (rising_bits n b) ≡ rising_bits n (bit_xor a b)
unfolding rising_bits plus_prefix
plus_prefix-rising_bits zero a b = refl
plus_prefix-rising_bits (suc n) a b =
    ap₂ (λ (bit : ℕ) (rest : List ℕ). bit ∷ rest) (sym (xor_lowest a b))
    (plus_prefix-rising_bits n (a / 2) (b / 2) ∙ ap (rising_bits n) (sym (xor_half a b)))

-- a zero at the end of what is added changes nothing
plus_prefix_ending : (n number : ℕ) (rest : List ℕ) → number < 2 ^ n → plus_prefix rest (rising_bits (suc n) number) ≡ plus_prefix rest (rising_bits n number)
unfolding plus_prefix rising_bits
plus_prefix_ending zero number [] below = refl
plus_prefix_ending zero number (x ∷ rest) below =
    let none : number % 2 ≡ 0 = omega arith in
    ap (λ (b : ℕ). bit_xor x b ∷ rest) none ∙ ap (λ (b : ℕ). b ∷ rest) (xor_zero_r x)
plus_prefix_ending (suc n) number [] below = refl
plus_prefix_ending (suc n) number (x ∷ rest) below =
    let half : number / 2 < 2 ^ n = omega (arith, pow-suc 2 n) in
    ap (λ (l : List ℕ). bit_xor x (number % 2) ∷ l) (plus_prefix_ending n (number / 2) rest half)

-- a number below 2^31 adds the same by 32 bits as by 31
pub plus_prefix_halved : (rest : List ℕ) (number : ℕ) → number < 2 ^ 31 → plus_prefix rest (rising_bits 32 number) ≡ plus_prefix rest (rising_bits 31 number)
plus_prefix_halved rest number below = plus_prefix_ending 31 number rest below

-- zeros added to bits
pub plus_prefix_none : (n : ℕ) (rest : List ℕ) → plus_prefix rest (rising_bits n 0) ≡ rest
unfolding plus_prefix rising_bits
plus_prefix_none zero rest = refl
plus_prefix_none (suc n) [] = refl
plus_prefix_none (suc n) (x ∷ rest) = ap₂ (λ (b : ℕ) (l : List ℕ). b ∷ l) (xor_zero_r x) (plus_prefix_none n rest)

-- bits added to zeros
pub plus_prefix-zeros : (n number : ℕ) → plus_prefix (replicate n 0) (rising_bits n number) ≡ rising_bits n number
unfolding plus_prefix rising_bits
plus_prefix-zeros zero number = refl
plus_prefix-zeros (suc n) number =
    ap₂ (λ (b : ℕ) (l : List ℕ). b ∷ l) (xor_zero_l (number % 2)) (plus_prefix-zeros n (number / 2))

-- a number is what its bits say
pub rising_number-rising_bits : (n number : ℕ) → number < 2 ^ n → rising_number (rising_bits n number) ≡ number
unfolding rising_number rising_bits
rising_number-rising_bits zero number below = omega arith
rising_number-rising_bits (suc n) number below =
    let half : number / 2 < 2 ^ n = omega (arith, pow-suc 2 n) in
    omega (arith, rising_number-rising_bits n (number / 2) half)
