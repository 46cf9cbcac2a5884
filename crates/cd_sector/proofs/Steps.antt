-- Steps of the register: they take a sum to the sum, and eight steps of a word are those of its lowest byte.
use Rattle.std.proofs.Common.{◌≡◌, ℕ, zero, suc, ◌+◌, ◌*◌, ◌/◌, ◌%◌, ◌^◌, ◌<◌, ◌≤◌, List, [], ◌∷◌, length, drop, get_or, All, cond, eqb, Bool, true, false, refl, sym, ◌∙◌, ap, ap₂, subst, add-one, arith}
use Rattle.std.specs.Prelude.{bit_xor}
use Rattle.std.specs.Int.Bits.{xor_assoc, xor_zero_l, xor_zero_r}
use Rattle.std.proofs.Math.Seq.{drop-cons}
use Rattle.std.proofs.lemmas.List.{drop_all}
use Rattle.std.proofs.lemmas.Nat.{xor_lt, xor_block}
use Rattle.std.proofs.lemmas.Nat.Bits.{same_from_bits, bit_at_xor}
use Rattle.std.proofs.lemmas.List.Elements.{All-tail}
use Rattle.coding.specs.Words.{IsByte}
use Rattle.cd_sector.specs.Inner.Register.{stepped, after_steps, after_reading}
use Rattle.cd_sector.proofs.Bits.{xor_half, xor_lowest}

-- what a step adds for the bit that leaves
unfoldable pub taken : ℕ → ℕ
taken bit = cond (eqb bit 1) 0xD8018001 0

-- what a step adds for a sum of two bits is the sum of both
taken_sum : (a b : ℕ) → a < 2 → b < 2 → taken (bit_xor a b) ≡ bit_xor (taken a) (taken b)
unfolding taken
taken_sum zero zero bit_a bit_b = refl
taken_sum zero (suc zero) bit_a bit_b = refl
taken_sum (suc zero) zero bit_a bit_b = refl
taken_sum (suc zero) (suc zero) bit_a bit_b = refl
taken_sum (suc (suc a)) b bit_a bit_b = absurd (omega arith)
taken_sum zero (suc (suc b)) bit_a bit_b = absurd (omega arith)
taken_sum (suc zero) (suc (suc b)) bit_a bit_b = absurd (omega arith)

-- a step halves the register and adds something for the bit that leaves
pub stepped_is : (register : ℕ) → stepped register ≡ bit_xor (register / 2) (taken (register % 2))
unfolding stepped taken
stepped_is register = refl

-- sums of sums, in another order
pub xor_swap : (a b c d : ℕ) → bit_xor (bit_xor a b) (bit_xor c d) ≡ bit_xor (bit_xor a c) (bit_xor b d)
xor_swap a b c d = same_from_bits _ _ (λ i. simp bit_at_xor (omega arith))

-- a step takes a sum to the sum of the steps
pub stepped_sum : (a b : ℕ) → stepped (bit_xor a b) ≡ bit_xor (stepped a) (stepped b)
stepped_sum a b =
    stepped_is (bit_xor a b)
    ∙ ap₂ bit_xor (xor_half a b) (ap taken (xor_lowest a b) ∙ taken_sum (a % 2) (b % 2) (omega arith) (omega arith))
    ∙ xor_swap (a / 2) (b / 2) (taken (a % 2)) (taken (b % 2))
    ∙ ap₂ bit_xor (sym (stepped_is a)) (sym (stepped_is b))

-- so do n steps
pub after_steps_sum : (n a b : ℕ) → after_steps n (bit_xor a b) ≡ bit_xor (after_steps n a) (after_steps n b)
unfolding after_steps
after_steps_sum zero a b = refl
after_steps_sum (suc n) a b = ap (after_steps n) (stepped_sum a b) ∙ after_steps_sum n (stepped a) (stepped b)

-- a step where a zero leaves is a shift alone
stepped_even : (a : ℕ) → stepped (2 * a) ≡ a
unfolding taken
stepped_even a =
    let half : 2 * a / 2 ≡ a = omega arith in
    let even : 2 * a % 2 ≡ 0 = omega arith in
    stepped_is (2 * a) ∙ ap₂ (λ (h l : ℕ). bit_xor h (taken l)) half even ∙ xor_zero_r a

-- eight steps of a register whose lowest byte is zeros
after_eight : (a : ℕ) → after_steps 8 (256 * a) ≡ a
unfolding after_steps
after_eight a =
    let shape : 256 * a ≡ 2 * (2 * (2 * (2 * (2 * (2 * (2 * (2 * a))))))) = omega arith in
    ap (after_steps 8) shape
    ∙ ap (after_steps 7) (stepped_even (2 * (2 * (2 * (2 * (2 * (2 * (2 * a))))))))
    ∙ ap (after_steps 6) (stepped_even (2 * (2 * (2 * (2 * (2 * (2 * a)))))))
    ∙ ap (after_steps 5) (stepped_even (2 * (2 * (2 * (2 * (2 * a))))))
    ∙ ap (after_steps 4) (stepped_even (2 * (2 * (2 * (2 * a)))))
    ∙ ap (after_steps 3) (stepped_even (2 * (2 * (2 * a))))
    ∙ ap (after_steps 2) (stepped_even (2 * (2 * a)))
    ∙ ap (after_steps 1) (stepped_even (2 * a))
    ∙ stepped_even a

-- a word is the sum of its upper part and its lowest byte
parted : (a : ℕ) → a ≡ bit_xor (256 * (a / 256)) (a % 256)
parted a =
    let whole : a ≡ a / 256 * 256 + a % 256 = omega arith in
    let upper : a / 256 * 256 + 0 ≡ 256 * (a / 256) = omega arith in
    let lower : 0 * 256 + a % 256 ≡ a % 256 = omega arith in
    whole
    ∙ sym (ap₂ (λ (h l : ℕ). h * 256 + l) (xor_zero_r (a / 256)) (xor_zero_l (a % 256)))
    ∙ sym (xor_block 8 (a / 256) 0 0 (a % 256) (omega arith) (omega arith))
    ∙ ap₂ bit_xor upper lower

-- Eight steps of a word: its upper part moves down, and what those of its lowest byte leave is added.
pub eight_steps : (a : ℕ) → after_steps 8 a ≡ bit_xor (a / 2 ^ 8) (after_steps 8 (a % 2 ^ 8))
eight_steps a =
    ap (after_steps 8) (parted a) ∙ after_steps_sum 8 (256 * (a / 256)) (a % 256)
    ∙ ap (λ (h : ℕ). bit_xor h (after_steps 8 (a % 256))) (after_eight (a / 256))

-- a byte read into the register, as the code does it
pub byte_read : (register byte : ℕ) → bit_xor (register / 256) (after_steps 8 (bit_xor (register % 256) byte)) ≡ after_steps 8 (bit_xor register byte)
byte_read register byte =
    ap (bit_xor (register / 256)) (after_steps_sum 8 (register % 256) byte)
    ∙ sym (xor_assoc (register / 256) (after_steps 8 (register % 256)) (after_steps 8 byte))
    ∙ ap (λ (x : ℕ). bit_xor x (after_steps 8 byte)) (sym (eight_steps register))
    ∙ sym (after_steps_sum 8 register byte)

-- a bit that leaves a word of 32 bits leaves one
pub added-lt : (register bit : ℕ) → register < 2 ^ 32 → bit_xor (register / 2) (taken bit) < 2 ^ 32
unfolding taken
added-lt register bit fits = xor_lt 32 (register / 2) (taken bit) (omega arith) (taken-lt (eqb bit 1))
  where
    taken-lt : (leaves : Bool) → cond leaves 0xD8018001 0 < 2 ^ 32
    taken-lt true = omega arith
    taken-lt false = omega arith

-- a step leaves 32 bits
stepped-lt : (register : ℕ) → register < 2 ^ 32 → stepped register < 2 ^ 32
stepped-lt register fits = subst (λ (n : ℕ). n < 2 ^ 32) (sym (stepped_is register)) (added-lt register (register % 2) fits)

-- so do n steps
pub after_steps-lt : (n register : ℕ) → register < 2 ^ 32 → after_steps n register < 2 ^ 32
unfolding after_steps
after_steps-lt zero register fits = fits
after_steps-lt (suc n) register fits = after_steps-lt n (stepped register) (stepped-lt register fits)

-- a byte added to the register leaves it below 2^32
pub met-lt : (register byte : ℕ) → register < 2 ^ 32 → byte < 256 → bit_xor register byte < 2 ^ 32
met-lt register byte fits is_byte = xor_lt 32 register byte fits (omega arith)

-- and so do the bytes of a list
pub after_reading-lt : (bytes : List ℕ) (register : ℕ) → register < 2 ^ 32 → All IsByte bytes → after_reading bytes register < 2 ^ 32
unfolding after_reading
after_reading-lt [] register fits each = fits
after_reading-lt (byte ∷ bytes) register fits each =
    after_reading-lt bytes (after_steps 8 (bit_xor register byte))
    (after_steps-lt 8 (bit_xor register byte) (met-lt register byte fits (each 0 byte (omega arith))))
    (All-tail IsByte byte bytes each)

-- the next byte of a list
pub after_reading-next : (bytes : List ℕ) (i register : ℕ) → i < length bytes
    → after_reading (drop (i + 1) bytes) (after_steps 8 (bit_xor register (get_or bytes i 0))) ≡ after_reading (drop i bytes) register
unfolding after_reading
after_reading-next bytes i register within =
    ap (λ (k : ℕ). after_reading (drop k bytes) (after_steps 8 (bit_xor register (get_or bytes i 0)))) (add-one i)
    ∙ ap (λ (l : List ℕ). after_reading l register) (sym (drop-cons bytes i 0 within))

-- no byte is left
pub after_reading-end : (bytes : List ℕ) (i register : ℕ) → length bytes ≤ i → after_reading (drop i bytes) register ≡ register
unfolding after_reading
after_reading-end bytes i register all = ap (λ (l : List ℕ). after_reading l register) (drop_all i bytes all)
