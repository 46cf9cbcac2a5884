-- Division of eight bytes at once: what it leaves of each, with zeros in place of the others, is added up.
use Rattle.std.proofs.Common.{◌≡◌, ℕ, zero, suc, ◌+◌, ◌*◌, ◌<◌, ◌≤◌, List, [], ◌∷◌, ◌++◌, length, get_or, All, cond, eqb, refl, sym, ◌∙◌, ap, arith}
use Rattle.std.specs.Prelude.{bit_xor, replicate}
use Rattle.std.specs.Int.Bits.{xor_zero_r, xor_assoc}
use Rattle.std.proofs.lemmas.List.{length-append, length-replicate, append_assoc}
use Rattle.std.proofs.lemmas.List.Elements.{All-append, All-replicate, All-tail}
use Rattle.coding.specs.BitDivision.{plus_prefix, remainder_by}
use Rattle.gf_field.proofs.BitDivision.{length-plus_prefix, plus_prefix_twice, remainder_by_twice}
use Rattle.rs_code.proofs.Chunks.{bytes_at_places}
use Rattle.coding.specs.Bits.{bits, bits_of}
use Rattle.dvd_frame.specs.Edc.{remainder, divisor}
use Rattle.dvd_frame.specs.Inner.Registers.{divided_from, byte_remainder}
use Rattle.dvd_frame.specs.Id.{word_bytes}
use Rattle.dvd_frame.proofs.BitLists.{length-bits, plus_prefix-bits}
use Rattle.dvd_frame.proofs.Division.{plus_prefix-append, plus_prefix_none, prefix_divided, padded, length-padded, bits-padded, bits-byte_remainder}
use Rattle.dvd_frame.proofs.Multiples.{IsBit, bits-plus_prefix, plus_prefix_swap, plus_prefix_self, zeros_plus, bits-bits, bits-bits_of, length-bits_of, bits_of-append, bits_of-word_bytes}

-- division takes a sum apart
pub divided_sum : (n : ℕ) (xs ys : List ℕ) → length xs ≡ n + 32 → length ys ≡ n + 32 → All IsBit xs → All IsBit ys
    → remainder n (plus_prefix xs ys) ≡ plus_prefix (remainder n xs) (remainder n ys)
unfolding remainder_by plus_prefix bits
divided_sum zero xs ys size_xs size_ys bits_xs bits_ys = refl
divided_sum (suc n) [] ys size_xs size_ys bits_xs bits_ys = absurd (omega arith)
divided_sum (suc n) (x ∷ xs) [] size_xs size_ys bits_xs bits_ys = absurd (omega arith)
divided_sum (suc n) (x ∷ xs) (y ∷ ys) size_xs size_ys bits_xs bits_ys =
    each (λ us vs long_us long_vs all_us all_vs. divided_sum n us vs long_us long_vs all_us all_vs)
    x y (bits_xs 0 x (omega arith)) (bits_ys 0 y (omega arith))
  where
    by : List ℕ
    by = bits 32 divisor

    tail_xs : All IsBit xs
    tail_xs = All-tail IsBit x xs bits_xs

    tail_ys : All IsBit ys
    tail_ys = All-tail IsBit y ys bits_ys

    less_xs : All IsBit (plus_prefix xs by)
    less_xs = bits-plus_prefix xs by tail_xs (bits-bits 32 divisor)

    less_ys : All IsBit (plus_prefix ys by)
    less_ys = bits-plus_prefix ys by tail_ys (bits-bits 32 divisor)

    within_xs : length by ≤ length xs
    within_xs = omega (arith, length-bits 32 divisor)

    within_ys : length by ≤ length ys
    within_ys = omega (arith, length-bits 32 divisor)

    twice : plus_prefix (plus_prefix xs by) (plus_prefix ys by) ≡ plus_prefix xs ys
    twice =
        sym (plus_prefix_twice (plus_prefix xs by) ys by within_ys)
        ∙ ap (λ (l : List ℕ). plus_prefix l by) (plus_prefix_swap xs by ys)
        ∙ plus_prefix_twice (plus_prefix xs ys) by by (omega arith)
        ∙ ap (plus_prefix (plus_prefix xs ys)) (plus_prefix_self by ∙ ap (λ (k : ℕ). replicate k 0) (length-bits 32 divisor))
        ∙ plus_prefix_none 32 (plus_prefix xs ys)

    each : ((us vs : List ℕ) → length us ≡ n + 32 → length vs ≡ n + 32 → All IsBit us → All IsBit vs
        → remainder n (plus_prefix us vs) ≡ plus_prefix (remainder n us) (remainder n vs))
        → (a b : ℕ) → a < 2 → b < 2
        → remainder n (cond (eqb (bit_xor a b) 1) (plus_prefix (plus_prefix xs ys) by) (plus_prefix xs ys))
        ≡ plus_prefix (remainder n (cond (eqb a 1) (plus_prefix xs by) xs)) (remainder n (cond (eqb b 1) (plus_prefix ys by) ys))
    each below zero zero bit_a bit_b = below xs ys (omega arith) (omega arith) tail_xs tail_ys
    each below zero (suc zero) bit_a bit_b =
        ap (remainder n) (plus_prefix_twice xs ys by within_ys)
        ∙ below xs (plus_prefix ys by) (omega arith) (omega (arith, length-plus_prefix ys by)) tail_xs less_ys
    each below (suc zero) zero bit_a bit_b =
        ap (remainder n) (plus_prefix_swap xs ys by)
        ∙ below (plus_prefix xs by) ys (omega (arith, length-plus_prefix xs by)) (omega arith) less_xs tail_ys
    each below (suc zero) (suc zero) bit_a bit_b =
        ap (remainder n) (sym twice)
        ∙ below (plus_prefix xs by) (plus_prefix ys by) (omega (arith, length-plus_prefix xs by)) (omega (arith, length-plus_prefix ys by)) less_xs less_ys
    each below zero (suc (suc b)) bit_a bit_b = absurd (omega arith)
    each below (suc zero) (suc (suc b)) bit_a bit_b = absurd (omega arith)
    each below (suc (suc a)) b bit_a bit_b = absurd (omega arith)

-- what division leaves of each byte with the zeros in place of those after it, added up
unfoldable pub remainders_sum : List ℕ → ℕ
remainders_sum [] = 0
remainders_sum (byte ∷ bytes) = bit_xor (byte_remainder (length bytes) byte) (remainders_sum bytes)

-- zeros in front leave nothing
zeros_divided : (n : ℕ) (ys : List ℕ) → remainder (8 + n) (replicate 8 0 ++ ys) ≡ remainder n ys
unfolding remainder_by
zeros_divided n ys = remainder_by_twice (bits 32 divisor) 8 n (replicate 8 0 ++ ys)

-- one byte more in front
sum_with : (byte : ℕ) (bytes : List ℕ) → bits 32 (remainders_sum bytes) ≡ remainder (8 * length bytes) (bits_of bytes ++ replicate 32 0)
    → bits 32 (bit_xor (byte_remainder (length bytes) byte) (remainders_sum bytes)) ≡ remainder (8 * suc (length bytes)) (bits_of (byte ∷ bytes) ++ replicate 32 0)
unfolding bits_of padded bits
sum_with byte bytes is =
    let k : ℕ = length bytes in
    let count : 8 * (k + 1) ≡ 8 + 8 * k = omega arith in
    let whole : 8 * (k + 1) ≡ 8 * suc k = omega arith in
    let eight : List ℕ = replicate 8 0 in
    let others : List ℕ = bits_of bytes ++ replicate 32 0 in
    let size : length others ≡ 8 * k + 32 = omega (arith, length-append (bits_of bytes) (replicate 32 0), length-bits_of bytes, length-replicate {A = ℕ} 32 0) in
    let long : length (eight ++ others) ≡ 8 * (k + 1) + 32 = omega (arith, length-append eight others, length-replicate {A = ℕ} 8 0) in
    let all_others : All IsBit others = All-append IsBit (bits_of bytes) (replicate 32 0) (bits-bits_of bytes) (All-replicate IsBit 32 0 (omega arith)) in
    let all_bits : All IsBit (eight ++ others) = All-append IsBit eight others (All-replicate IsBit 8 0 (omega arith)) all_others in
    let sum : plus_prefix (padded k byte) (eight ++ others) ≡ (bits 8 byte ++ bits_of bytes) ++ replicate 32 0 =
    plus_prefix-append (bits 8 byte) eight (replicate (8 * k + 32) 0) others (length-bits 8 byte)
    ∙ ap (λ (l : List ℕ). l ++ plus_prefix (replicate (8 * k + 32) 0) others) (plus_prefix_none 8 (bits 8 byte))
    ∙ ap (λ (m : ℕ). bits 8 byte ++ plus_prefix (replicate m 0) others) (sym size)
    ∙ ap (λ (l : List ℕ). bits 8 byte ++ l) (zeros_plus others)
    ∙ sym (append_assoc (bits 8 byte) (bits_of bytes) (replicate 32 0)) in
    sym (plus_prefix-bits 32 (byte_remainder k byte) (remainders_sum bytes))
    ∙ ap (λ (l : List ℕ). plus_prefix l (bits 32 (remainders_sum bytes))) (bits-byte_remainder k byte)
    ∙ ap (plus_prefix (remainder (8 * (k + 1)) (padded k byte))) (is ∙ sym (ap (λ (m : ℕ). remainder m (eight ++ others)) count ∙ zeros_divided (8 * k) others))
    ∙ sym (divided_sum (8 * (k + 1)) (padded k byte) (eight ++ others) (length-padded k byte) long (bits-padded k byte) all_bits)
    ∙ ap (remainder (8 * (k + 1))) sum
    ∙ ap (λ (m : ℕ). remainder m ((bits 8 byte ++ bits_of bytes) ++ replicate 32 0)) whole

-- what division leaves of bytes is the sum of what it leaves of each
pub bits-remainders_sum : (bytes : List ℕ) → bits 32 (remainders_sum bytes) ≡ remainder (8 * length bytes) (bits_of bytes ++ replicate 32 0)
unfolding remainders_sum bits bits_of remainder_by
bits-remainders_sum [] = refl
bits-remainders_sum (byte ∷ bytes) = sum_with byte bytes (bits-remainders_sum bytes)

-- the bits of bytes that are added are added
bits_of-plus_prefix : (xs ys : List ℕ) → bits_of (plus_prefix xs ys) ≡ plus_prefix (bits_of xs) (bits_of ys)
unfolding plus_prefix bits_of bits
bits_of-plus_prefix xs [] = refl
bits_of-plus_prefix [] (y ∷ ys) = refl
bits_of-plus_prefix (x ∷ xs) (y ∷ ys) =
    ap (λ (l : List ℕ). bits 8 (bit_xor x y) ++ l) (bits_of-plus_prefix xs ys)
    ∙ ap (λ (l : List ℕ). l ++ plus_prefix (bits_of xs) (bits_of ys)) (sym (plus_prefix-bits 8 x y))
    ∙ sym (plus_prefix-append (bits 8 x) (bits 8 y) (bits_of xs) (bits_of ys) (length-bits 8 x ∙ sym (length-bits 8 y)))

-- what is added within the first of two joined lists leaves the second
pub plus_prefix_within : (xs ys added : List ℕ) → length added ≤ length xs → plus_prefix (xs ++ ys) added ≡ plus_prefix xs added ++ ys
unfolding plus_prefix
plus_prefix_within xs ys [] within = refl
plus_prefix_within [] ys (z ∷ added) within = absurd (omega arith)
plus_prefix_within (x ∷ xs) ys (z ∷ added) within = ap (λ (l : List ℕ). bit_xor x z ∷ l) (plus_prefix_within xs ys added (omega arith))

-- Eight bytes read into the register: what their sum with the register's leaves is the next register.
pub word_read : (register next : ℕ) (word bytes : List ℕ) → length word ≡ 8
    → bits 32 next ≡ remainder 64 (bits_of (plus_prefix word (word_bytes register)) ++ replicate 32 0)
    → divided_from next bytes ≡ divided_from register (word ++ bytes)
unfolding divided_from plus_prefix
word_read register next word bytes size is =
    let n : ℕ = 8 * length bytes in
    let zeros : List ℕ = replicate 32 0 in
    let past : List ℕ = bits_of bytes ++ zeros in
    let four : List ℕ = word_bytes register in
    let sum : List ℕ = plus_prefix word four in
    let sum_size : length (bits_of sum) ≡ 64 = omega (arith, length-plus_prefix word four, length-bits_of sum) in
    let count : 64 + n ≡ 8 * length (word ++ bytes) = omega (arith, length-append word bytes) in
    let met : bits_of sum ++ past ≡ plus_prefix (bits_of (word ++ bytes) ++ zeros) (bits 32 register) =
    ap (λ (l : List ℕ). l ++ past) (bits_of-plus_prefix word four)
    ∙ sym (plus_prefix_within (bits_of word) past (bits_of four) (omega (arith, length-bits_of word, length-bits_of four)))
    ∙ ap (plus_prefix (bits_of word ++ past)) (bits_of-word_bytes register)
    ∙ ap (λ (l : List ℕ). plus_prefix l (bits 32 register)) (sym (ap (λ (l : List ℕ). l ++ zeros) (bits_of-append word bytes) ∙ append_assoc (bits_of word) (bits_of bytes) zeros)) in
    ap (λ (l : List ℕ). remainder n (plus_prefix past l)) is
    ∙ ap (remainder n) (sym (prefix_divided 64 (bits_of sum) past sum_size))
    ∙ sym (remainder_by_twice (bits 32 divisor) 64 n (bits_of sum ++ past))
    ∙ ap (λ (k : ℕ). remainder k (bits_of sum ++ past)) count
    ∙ ap (remainder (8 * length (word ++ bytes))) met

-- eight bytes, one by one
eight_bytes : (word : List ℕ) → length word ≡ 8
    → get_or word 0 0 ∷ get_or word 1 0 ∷ get_or word 2 0 ∷ get_or word 3 0 ∷ get_or word 4 0 ∷ get_or word 5 0 ∷ get_or word 6 0 ∷ get_or word 7 0 ∷ []
    ≡ word
eight_bytes word size = bytes_at_places 8 word size

-- eight bytes, to the first four of which the register's are added
pub word_met : (register : ℕ) (word four : List ℕ) → length word ≡ 8 → four ≡ word_bytes register
    → bit_xor (get_or word 0 0) (get_or four 0 0) ∷ bit_xor (get_or word 1 0) (get_or four 1 0) ∷ bit_xor (get_or word 2 0) (get_or four 2 0)
    ∷ bit_xor (get_or word 3 0) (get_or four 3 0) ∷ get_or word 4 0 ∷ get_or word 5 0 ∷ get_or word 6 0 ∷ get_or word 7 0 ∷ []
    ≡ plus_prefix word (word_bytes register)
unfolding plus_prefix
word_met register word four size is =
    ap (λ (f : List ℕ). bit_xor (get_or word 0 0) (get_or f 0 0) ∷ bit_xor (get_or word 1 0) (get_or f 1 0) ∷ bit_xor (get_or word 2 0) (get_or f 2 0)
    ∷ bit_xor (get_or word 3 0) (get_or f 3 0) ∷ get_or word 4 0 ∷ get_or word 5 0 ∷ get_or word 6 0 ∷ get_or word 7 0 ∷ []) is
    ∙ ap (λ (w : List ℕ). plus_prefix w (word_bytes register)) (eight_bytes word size)

-- a sum of four and more
xor_four : (a b c d more : ℕ) → bit_xor (bit_xor (bit_xor (bit_xor a b) c) d) more ≡ bit_xor a (bit_xor b (bit_xor c (bit_xor d more)))
xor_four a b c d more = xor_assoc (bit_xor (bit_xor a b) c) d more ∙ xor_assoc (bit_xor a b) c (bit_xor d more) ∙ xor_assoc a b (bit_xor c (bit_xor d more))

-- what division leaves of eight bytes, from what it leaves of each with zeros in place of the others
pub word_remainder : (word : List ℕ) (a b c d e f g h : ℕ) → length word ≡ 8
    → a ≡ byte_remainder 7 (get_or word 0 0) → b ≡ byte_remainder 6 (get_or word 1 0)
    → c ≡ byte_remainder 5 (get_or word 2 0) → d ≡ byte_remainder 4 (get_or word 3 0)
    → e ≡ byte_remainder 3 (get_or word 4 0) → f ≡ byte_remainder 2 (get_or word 5 0)
    → g ≡ byte_remainder 1 (get_or word 6 0) → h ≡ byte_remainder 0 (get_or word 7 0)
    → bits 32 (bit_xor (bit_xor (bit_xor (bit_xor a b) c) d) (bit_xor (bit_xor (bit_xor e f) g) h)) ≡ remainder 64 (bits_of word ++ replicate 32 0)
unfolding remainders_sum
word_remainder word a b c d e f g h size a_is b_is c_is d_is e_is f_is g_is h_is =
    let eight : List ℕ = get_or word 0 0 ∷ get_or word 1 0 ∷ get_or word 2 0 ∷ get_or word 3 0 ∷ get_or word 4 0 ∷ get_or word 5 0 ∷ get_or word 6 0
    ∷ get_or word 7 0 ∷ [] in
    let lower : ℕ = bit_xor (bit_xor (bit_xor e f) g) h in
    let sum : bit_xor (bit_xor (bit_xor (bit_xor a b) c) d) lower ≡ remainders_sum eight =
    xor_four a b c d lower
    ∙ ap (λ (x : ℕ). bit_xor a (bit_xor b (bit_xor c (bit_xor d x)))) (sym (xor_zero_r lower) ∙ xor_four e f g h 0)
    ∙ rw (a_is, b_is, c_is, d_is, e_is, f_is, g_is, h_is) refl in
    ap (bits 32) sum
    ∙ bits-remainders_sum eight
    ∙ ap (λ (w : List ℕ). remainder 64 (bits_of w ++ replicate 32 0)) (eight_bytes word size)
