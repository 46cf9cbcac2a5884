-- Division of bits by the divisor of the EDC, seen as a register of 32 bits that is read into byte by byte.
use Rattle.std.proofs.Common.{◌≡◌, ℕ, zero, suc, ◌+◌, ◌*◌, ◌/◌, ◌%◌, ◌^◌, ◌<◌, List, [], ◌∷◌, ◌++◌, length, All, Bool, true, false, cond, eqb, refl, sym, ◌∙◌, ap, arith}
use Rattle.std.specs.Prelude.{bit_xor, replicate}
use Rattle.std.specs.Int.{bit_at}
use Rattle.std.specs.Int.Bits.{xor_zero_l, xor_zero_r}
use Rattle.std.proofs.lemmas.List.{length-append, length-replicate, append_assoc}
use Rattle.std.proofs.lemmas.List.Elements.{All-append, All-replicate}
use Rattle.std.proofs.lemmas.Nat.{xor_comm}
use Rattle.std.proofs.lemmas.Nat.Bits.{bit_at-zero}
use Rattle.coding.specs.BitDivision.{plus_prefix, remainder_by}
use Rattle.gf_field.proofs.BitDivision.{length-plus_prefix, plus_prefix_twice, remainder_by_twice}
use Rattle.coding.specs.Bits.{bits, bits_of, number_of}
use Rattle.dvd_frame.specs.Edc.{remainder, divisor, edc_of}
use Rattle.dvd_frame.specs.Inner.Registers.{divided_from, byte_remainder}
use Rattle.dvd_frame.specs.Id.{word_bytes}
use Rattle.dvd_frame.proofs.BitLists.{length-bits, plus_prefix-bits, bits-mod, bits-split, number_of-bits}
use Rattle.dvd_frame.proofs.Multiples.{IsBit, zeros_plus, length-remainder, bits-bits, bits-remainder, bits-number_of}

-- lists that begin with equally many bits are added part by part
pub plus_prefix-append : (xs ys rest more : List ℕ) → length xs ≡ length ys → plus_prefix (xs ++ rest) (ys ++ more) ≡ plus_prefix xs ys ++ plus_prefix rest more
unfolding plus_prefix
plus_prefix-append [] [] rest more same = refl
plus_prefix-append [] (y ∷ ys) rest more same = absurd (omega arith)
plus_prefix-append (x ∷ xs) [] rest more same = absurd (omega arith)
plus_prefix-append (x ∷ xs) (y ∷ ys) rest more same =
    ap (λ (l : List ℕ). bit_xor x y ∷ l) (plus_prefix-append xs ys rest more (omega arith))

-- bits added to zeros
plus_prefix-zeros : (n number : ℕ) → plus_prefix (replicate n 0) (bits n number) ≡ bits n number
unfolding plus_prefix bits
plus_prefix-zeros zero number = refl
plus_prefix-zeros (suc n) number =
    ap (λ (b : ℕ). b ∷ plus_prefix (replicate n 0) (bits n number)) (xor_zero_l (bit_at number n))
    ∙ ap (λ (l : List ℕ). bit_at number n ∷ l) (plus_prefix-zeros n number)

-- zeros added to bits
pub plus_prefix_none : (n : ℕ) (rest : List ℕ) → plus_prefix rest (bits n 0) ≡ rest
unfolding plus_prefix bits
plus_prefix_none zero rest = refl
plus_prefix_none (suc n) [] = refl
plus_prefix_none (suc n) (x ∷ rest) =
    ap (λ (b : ℕ). bit_xor x b ∷ plus_prefix rest (bits n 0)) (bit_at-zero n)
    ∙ ap (λ (b : ℕ). b ∷ plus_prefix rest (bits n 0)) (xor_zero_r x)
    ∙ ap (λ (l : List ℕ). x ∷ l) (plus_prefix_none n rest)

-- zeros at the end of what is added change nothing
plus_prefix_ending : (rest added : List ℕ) (n : ℕ) → plus_prefix rest (added ++ bits n 0) ≡ plus_prefix rest added
unfolding plus_prefix
plus_prefix_ending rest [] n = plus_prefix_none n rest
plus_prefix_ending [] (y ∷ added) n = refl
plus_prefix_ending (x ∷ rest) (y ∷ added) n = ap (λ (l : List ℕ). bit_xor x y ∷ l) (plus_prefix_ending rest added n)

-- reading nothing more, the register's bits are left
divided_from_none : (register : ℕ) → divided_from register [] ≡ bits 32 register
unfolding divided_from remainder_by bits_of
divided_from_none register = plus_prefix-zeros 32 register

-- the division of a list of bytes begins with a register of zeros
pub divided_from_zero : (bytes : List ℕ) → divided_from 0 bytes ≡ remainder (8 * length bytes) (bits_of bytes ++ replicate 32 0)
unfolding divided_from
divided_from_zero bytes = ap (remainder (8 * length bytes)) (plus_prefix_none 32 (bits_of bytes ++ replicate 32 0))

-- a register that all bytes were read into is their EDC
pub edc_read : (register : ℕ) (bytes : List ℕ) → register < 2 ^ 32 → divided_from register [] ≡ divided_from 0 bytes
    → word_bytes register ≡ edc_of bytes
unfolding edc_of
edc_read register bytes fits read =
    let whole : number_of (bits 32 register) ≡ register = omega (arith, number_of-bits 32 register) in
    ap word_bytes (sym whole ∙ ap number_of (sym (divided_from_none register) ∙ read ∙ divided_from_zero bytes))

-- n steps of the division, of n + 32 bits to whose end a list is added: it is added to what they leave
added_behind : (n : ℕ) (ys rest : List ℕ) → length ys ≡ n + 32
    → remainder n (plus_prefix (replicate n 0 ++ rest) ys) ≡ plus_prefix rest (remainder n ys)
unfolding remainder_by plus_prefix
added_behind zero ys rest size = refl
added_behind (suc n) [] rest size = absurd (omega arith)
added_behind (suc n) (y ∷ ys) rest size =
    ap (λ (b : ℕ). remainder (suc n) (b ∷ plus_prefix (replicate n 0 ++ rest) ys)) (xor_zero_l y) ∙ each (λ zs long. added_behind n zs rest long) (eqb y 1)
  where
    prefix : List ℕ
    prefix = replicate n 0 ++ rest

    by : List ℕ
    by = bits 32 divisor

    each : ((zs : List ℕ) → length zs ≡ n + 32 → remainder n (plus_prefix prefix zs) ≡ plus_prefix rest (remainder n zs)) → (taken : Bool)
        → remainder n (cond taken (plus_prefix (plus_prefix prefix ys) by) (plus_prefix prefix ys)) ≡ plus_prefix rest (remainder n (cond taken (plus_prefix ys by) ys))
    each below true =
        ap (remainder n) (plus_prefix_twice prefix ys by (omega (arith, length-bits 32 divisor)))
        ∙ below (plus_prefix ys by) (omega (arith, length-plus_prefix ys by))
    each below false = below ys (omega arith)

-- bits that are read next, once a register of 32 bits is added: its leading n bits leave, and the others are added at
-- the end
leading_met : (n m number register : ℕ) (rest : List ℕ)
    → plus_prefix (bits n number ++ rest) (bits (n + m) register) ≡ bits n (bit_xor number (register / 2 ^ m)) ++ plus_prefix rest (bits m register)
leading_met n m number register rest =
    ap (plus_prefix (bits n number ++ rest)) (bits-split n m register)
    ∙ plus_prefix-append (bits n number) (bits n (register / 2 ^ m)) rest (bits m register) (length-bits n number ∙ sym (length-bits n (register / 2 ^ m)))
    ∙ ap (λ (l : List ℕ). l ++ plus_prefix rest (bits m register)) (plus_prefix-bits n number (register / 2 ^ m))

-- n steps of the division, that read n bits: what these leave is added to the bits after these
pub prefix_divided : (n : ℕ) (prefix rest : List ℕ) → length prefix ≡ n
    → remainder n (prefix ++ rest) ≡ plus_prefix rest (remainder n (prefix ++ replicate 32 0))
unfolding bits
prefix_divided n prefix rest size =
    let zeros : List ℕ = replicate 32 0 in
    let long : length (prefix ++ zeros) ≡ n + 32 = omega (arith, length-append prefix zeros, length-replicate {A = ℕ} 32 0) in
    let same : prefix ++ rest ≡ plus_prefix (replicate (length prefix) 0 ++ rest) (prefix ++ zeros) =
    sym (plus_prefix-append (replicate (length prefix) 0) prefix rest zeros (length-replicate {A = ℕ} (length prefix) 0)
    ∙ ap (λ (l : List ℕ). l ++ plus_prefix rest zeros) (zeros_plus prefix) ∙ ap (λ (l : List ℕ). prefix ++ l) (plus_prefix_none 32 rest)) in
    ap (remainder n) (same ∙ ap (λ (k : ℕ). plus_prefix (replicate k 0 ++ rest) (prefix ++ zeros)) size) ∙ added_behind n (prefix ++ zeros) rest long

-- what is left of bits are the bits of its number
bits-left : (n : ℕ) (ys : List ℕ) → length ys ≡ n + 32 → All IsBit ys → bits 32 (number_of (remainder n ys)) ≡ remainder n ys
bits-left n ys size each =
    bits-number_of (remainder n ys) 32 (omega (arith, length-remainder n ys (omega arith))) (bits-remainder n ys each)

-- a byte followed by zeros
unfoldable pub padded : ℕ → ℕ → List ℕ
padded k byte = bits 8 byte ++ replicate (8 * k + 32) 0

-- a byte, k bytes of zeros and 32 zeros are 8 (k + 1) + 32 bits
pub length-padded : (k byte : ℕ) → length (padded k byte) ≡ 8 * (k + 1) + 32
unfolding padded
length-padded k byte =
    omega (arith, length-append (bits 8 byte) (replicate (8 * k + 32) 0), length-bits 8 byte, length-replicate {A = ℕ} (8 * k + 32) 0)

-- a byte followed by zeros is a list of bits
pub bits-padded : (k byte : ℕ) → All IsBit (padded k byte)
unfolding padded
bits-padded k byte =
    All-append IsBit (bits 8 byte) (replicate (8 * k + 32) 0) (bits-bits 8 byte) (All-replicate IsBit (8 * k + 32) 0 (omega arith))

-- the bits of what a byte leaves are what the division of its padded bits leaves
pub bits-byte_remainder : (k byte : ℕ) → bits 32 (byte_remainder k byte) ≡ remainder (8 * (k + 1)) (padded k byte)
unfolding byte_remainder padded
bits-byte_remainder k byte = bits-left (8 * (k + 1)) (padded k byte) (length-padded k byte) (bits-padded k byte)

-- eight steps of the division: what a byte followed by 32 zeros leaves is added at the end
byte_divided : (byte : ℕ) (rest : List ℕ) → remainder 8 (bits 8 byte ++ rest) ≡ plus_prefix rest (bits 32 (byte_remainder 0 byte))
unfolding padded
byte_divided byte rest =
    prefix_divided 8 (bits 8 byte) rest (length-bits 8 byte) ∙ ap (plus_prefix rest) (sym (bits-byte_remainder 0 byte))

-- the register's lower 24 bits, shifted up
shifted_up : (register : ℕ) (rest : List ℕ) → plus_prefix rest (bits 32 (register * 256 % 2 ^ 32)) ≡ plus_prefix rest (bits 24 register)
shifted_up register rest =
    let shifted : ℕ = register * 256 in
    let upper : shifted / 2 ^ 8 ≡ register = omega arith in
    let lower : shifted % 2 ^ 8 ≡ 0 = omega arith in
    ap (plus_prefix rest) (bits-mod 32 shifted ∙ bits-split 24 8 shifted)
    ∙ ap (λ (x : ℕ). plus_prefix rest (bits 24 x ++ bits 8 shifted)) upper
    ∙ ap (λ (l : List ℕ). plus_prefix rest (bits 24 register ++ l)) (sym (bits-mod 8 shifted) ∙ ap (bits 8) lower)
    ∙ plus_prefix_ending rest (bits 24 register) 8

-- A byte read into the register: what its sum with the eight bits that leave leaves is added to the others, shifted up.
pub byte_read : (register byte : ℕ) (bytes : List ℕ)
    → divided_from (bit_xor (register * 256 % 2 ^ 32) (byte_remainder 0 (bit_xor (register / 2 ^ 24) byte))) bytes ≡ divided_from register (byte ∷ bytes)
unfolding divided_from bits_of
byte_read register byte bytes =
    let n : ℕ = 8 * length bytes in
    let past : List ℕ = bits_of bytes ++ replicate 32 0 in
    let leaving : ℕ = bit_xor byte (register / 2 ^ 24) in
    let shifted : ℕ = register * 256 % 2 ^ 32 in
    let entry : ℕ = byte_remainder 0 leaving in
    let count : 8 * suc (length bytes) ≡ 8 + n = omega arith in
    ap (λ (x : ℕ). remainder n (plus_prefix past (bits 32 (bit_xor shifted (byte_remainder 0 x))))) (xor_comm (register / 2 ^ 24) byte)
    ∙ ap (λ (l : List ℕ). remainder n (plus_prefix past l)) (sym (plus_prefix-bits 32 shifted entry))
    ∙ ap (remainder n) (sym (plus_prefix_twice past (bits 32 shifted) (bits 32 entry) (omega (arith, length-bits 32 shifted, length-bits 32 entry))))
    ∙ ap (λ (l : List ℕ). remainder n (plus_prefix l (bits 32 entry))) (shifted_up register past)
    ∙ ap (remainder n) (sym (byte_divided leaving (plus_prefix past (bits 24 register))))
    ∙ sym (remainder_by_twice (bits 32 divisor) 8 n (bits 8 leaving ++ plus_prefix past (bits 24 register)))
    ∙ ap (remainder (8 + n)) (sym (leading_met 8 24 byte register past) ∙ ap (λ (l : List ℕ). plus_prefix l (bits 32 register)) (sym (append_assoc (bits 8 byte) (bits_of bytes) (replicate 32 0))))
    ∙ ap (λ (k : ℕ). remainder k (plus_prefix ((bits 8 byte ++ bits_of bytes) ++ replicate 32 0) (bits 32 register))) (sym count)
