-- Division of bits by the divisor of the EDC, seen as steps of a register of 32 bits.
use Rattle.std.proofs.Common.{◌≡◌, ℕ, zero, suc, ◌+◌, ◌*◌, ◌/◌, ◌%◌, ◌^◌, ◌<◌, List, [], ◌∷◌, ◌++◌, length, All, Bool, true, false, cond, eqb, refl, sym, ◌∙◌, ap, ap₂, arith}
use Rattle.std.specs.Prelude.{bit_xor, replicate}
use Rattle.std.specs.Int.{to_le_bytes, w32}
use Rattle.std.specs.Int.Bits.{xor_zero_r}
use Rattle.std.proofs.lemmas.List.{append_assoc}
use Rattle.std.proofs.lemmas.List.Elements.{All-tail}
use Rattle.std.proofs.lemmas.Nat.{xor_comm}
use Rattle.std.proofs.lemmas.Nat.Bits.{same_from_bits, bit_at_xor}
use Rattle.std.proofs.Math.Nat.{pow-suc}
use Rattle.coding.specs.BitDivision.{plus_prefix, remainder_by}
use Rattle.coding.specs.Words.{IsByte}
use Rattle.gf_field.proofs.BitDivision.{plus_prefix_twice, remainder_by_twice}
use Rattle.cd_sector.specs.Bits.{rising_bits, rising_bits_of, rising_number}
use Rattle.cd_sector.specs.Edc.{cd_divisor, cd_edc_of}
use Rattle.cd_sector.specs.Inner.Register.{stepped, after_steps, after_reading}
use Rattle.cd_sector.proofs.Bits.{xor_half, xor_lowest, plus_prefix-rising_bits, plus_prefix_halved, plus_prefix_none, plus_prefix-zeros, rising_number-rising_bits}
use Rattle.cd_sector.proofs.Steps.{taken, stepped_is, added-lt, after_steps-lt, after_reading-lt, met-lt}

-- what the leading bit adds after it, with the register's other bits
bit_taken : (half : ℕ) (rest : List ℕ) (leaves : Bool) → half < 2 ^ 31
    → cond leaves (plus_prefix (plus_prefix rest (rising_bits 31 half)) cd_divisor) (plus_prefix rest (rising_bits 31 half)) ≡ plus_prefix rest (rising_bits 32 (bit_xor half (cond leaves 0xD8018001 0)))
unfolding rising_bits
bit_taken half rest true below =
    ap (λ (l : List ℕ). plus_prefix l (rising_bits 32 0xD8018001)) (sym (plus_prefix_halved rest half below))
    ∙ plus_prefix_twice rest (rising_bits 32 half) (rising_bits 32 0xD8018001) (omega arith)
    ∙ ap (plus_prefix rest) (plus_prefix-rising_bits 32 half 0xD8018001)
bit_taken half rest false below =
    sym (plus_prefix_halved rest half below) ∙ ap (λ (x : ℕ). plus_prefix rest (rising_bits 32 x)) (sym (xor_zero_r half))

-- one step of the division
one_step : (n bit register : ℕ) (rest : List ℕ) → register < 2 ^ 32
    → remainder_by cd_divisor (suc n) (plus_prefix (bit ∷ rest) (rising_bits 32 register)) ≡ remainder_by cd_divisor n (plus_prefix rest (rising_bits 32 (bit_xor (register / 2) (taken (bit_xor bit (register % 2))))))
unfolding remainder_by plus_prefix rising_bits taken
one_step n bit register rest fits =
    ap (remainder_by cd_divisor n) (bit_taken (register / 2) rest (eqb (bit_xor bit (register % 2)) 1) (omega arith))

-- sums of three in another order
xor_last : (a b c : ℕ) → bit_xor (bit_xor a b) c ≡ bit_xor (bit_xor a c) b
xor_last a b c = same_from_bits _ _ (λ i. simp bit_at_xor (omega arith))

-- the bits after the leading one are met after the step as well as before it
met_later : (register byte : ℕ) → bit_xor (bit_xor (register / 2) (taken (bit_xor (byte % 2) (register % 2)))) (byte / 2) ≡ stepped (bit_xor register byte)
met_later register byte =
    xor_last (register / 2) (taken (bit_xor (byte % 2) (register % 2))) (byte / 2)
    ∙ ap₂ (λ (h b : ℕ). bit_xor h (taken b)) (sym (xor_half register byte)) (xor_comm (byte % 2) (register % 2) ∙ sym (xor_lowest register byte))
    ∙ sym (stepped_is (bit_xor register byte))

-- n bits read into the register, all of which are added to it first
bits_read : (n number register : ℕ) (rest : List ℕ) → register < 2 ^ 32 → number < 2 ^ n
    → remainder_by cd_divisor n (plus_prefix (rising_bits n number ++ rest) (rising_bits 32 register)) ≡ plus_prefix rest (rising_bits 32 (after_steps n (bit_xor register number)))
unfolding rising_bits after_steps remainder_by
bits_read zero number register rest fits below =
    let none : number ≡ 0 = omega arith in
    ap (λ (x : ℕ). plus_prefix rest (rising_bits 32 x)) (sym (xor_zero_r register) ∙ ap (bit_xor register) (sym none))
bits_read (suc n) number register rest fits below =
    let half : number / 2 < 2 ^ n = omega (arith, pow-suc 2 n) in
    let leaving : ℕ = bit_xor (number % 2) (register % 2) in
    one_step n (number % 2) register (rising_bits n (number / 2) ++ rest) fits
    ∙ bits_read n (number / 2) (bit_xor (register / 2) (taken leaving)) rest (added-lt register leaving fits) half
    ∙ ap (λ (x : ℕ). plus_prefix rest (rising_bits 32 (after_steps n x))) (met_later register number)

-- bytes read into the register
bytes_read : (bytes : List ℕ) (register : ℕ) (rest : List ℕ) → register < 2 ^ 32 → All IsByte bytes
    → remainder_by cd_divisor (8 * length bytes) (plus_prefix (rising_bits_of bytes ++ rest) (rising_bits 32 register)) ≡ plus_prefix rest (rising_bits 32 (after_reading bytes register))
unfolding rising_bits_of after_reading remainder_by
bytes_read [] register rest fits each = refl
bytes_read (byte ∷ bytes) register rest fits each =
    let count : 8 * suc (length bytes) ≡ 8 + 8 * length bytes = omega arith in
    let is_byte : byte < 256 = each 0 byte (omega arith) in
    let past : List ℕ = rising_bits_of bytes ++ rest in
    ap₂ (λ (k : ℕ) (l : List ℕ). remainder_by cd_divisor k (plus_prefix l (rising_bits 32 register))) count (append_assoc (rising_bits 8 byte) (rising_bits_of bytes) rest)
    ∙ remainder_by_twice cd_divisor 8 (8 * length bytes) (plus_prefix (rising_bits 8 byte ++ past) (rising_bits 32 register))
    ∙ ap (remainder_by cd_divisor (8 * length bytes)) (bits_read 8 byte register past fits is_byte)
    ∙ bytes_read bytes (after_steps 8 (bit_xor register byte)) rest (after_steps-lt 8 (bit_xor register byte) (met-lt register byte fits is_byte)) (All-tail IsByte byte bytes each)

-- the register that all bytes were read into is their EDC
pub edc_read : (bytes : List ℕ) → All IsByte bytes → to_le_bytes w32 (after_reading bytes 0) ≡ cd_edc_of bytes
unfolding cd_edc_of
edc_read bytes each =
    let zeros : List ℕ = replicate 32 0 in
    let register : ℕ = after_reading bytes 0 in
    ap (to_le_bytes w32) (sym (rising_number-rising_bits 32 register (after_reading-lt bytes 0 (omega arith) each)))
    ∙ ap (λ (l : List ℕ). to_le_bytes w32 (rising_number l))
    (sym (plus_prefix-zeros 32 register) ∙ sym (bytes_read bytes 0 zeros (omega arith) each) ∙ ap (remainder_by cd_divisor (8 * length bytes)) (plus_prefix_none 32 (rising_bits_of bytes ++ zeros)))

-- lists read one after the other
pub after_reading-append : (xs ys : List ℕ) (register : ℕ) → after_reading ys (after_reading xs register) ≡ after_reading (xs ++ ys) register
unfolding after_reading
after_reading-append [] ys register = refl
after_reading-append (x ∷ xs) ys register = after_reading-append xs ys (after_steps 8 (bit_xor register x))
