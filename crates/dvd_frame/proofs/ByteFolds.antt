-- What division leaves of each byte with more and more bytes of zeros after it: the rule by which these terms follow
-- from one another. all_left computes its first case for each byte, byte_more leads to the next, and Folds-doubled
-- doubles distances.
use Rattle.std.proofs.Common.{◌≡◌, ℕ, zero, suc, ◌+◌, ◌*◌, ◌%◌, ◌^◌, ◌<◌, ◌≤◌, Bool, true, false, cond, eqb, List, [], ◌∷◌, ◌++◌, length, get_or, map, All, refl, sym, ◌∙◌, ap, zero-add, arith}
use Rattle.std.specs.Prelude.{bit_xor, replicate}
use Rattle.std.specs.List.{range_with_len}
use Rattle.std.proofs.Math.Nat.{pow-suc}
use Rattle.std.proofs.lemmas.List.{length-append, length-replicate, append_assoc, replicate-append-replicate}
use Rattle.std.proofs.lemmas.List.Elements.{All-append, All-replicate}
use Rattle.std.proofs.lemmas.List.FromFn.{get_or-map-range_with_len}
use Rattle.std.proofs.lemmas.Nat.{xor_lt}
use Rattle.std.proofs.lemmas.Nat.Bits.{bit_at_xor, same_from_bits}
use Rattle.std.proofs.lemmas.Slice.Eq.{bytes_eq-Decides}
use Rattle.coding.specs.BitDivision.{plus_prefix, remainder_by}
use Rattle.gf_field.proofs.BitDivision.{length-plus_prefix, remainder_by_twice}
use Rattle.coding.specs.Bits.{bits, number_of}
use Rattle.dvd_frame.specs.Edc.{remainder, divisor}
use Rattle.dvd_frame.specs.Inner.Registers.{byte_remainder}
use Rattle.dvd_frame.proofs.BitLists.{length-bits, plus_prefix-bits, bits-mod, number_of-bits}
use Rattle.dvd_frame.proofs.Multiples.{IsBit, bits-bits, length-remainder, bits-remainder, bits-number_of, plus_prefix_self}
use Rattle.dvd_frame.proofs.Division.{plus_prefix-append, padded, length-padded, bits-padded, bits-byte_remainder}
use Rattle.dvd_frame.proofs.WordDivision.{divided_sum, plus_prefix_within}

-- division leaves what comes after the bits that its steps reach
remainder_prefix : (n : ℕ) (xs ys : List ℕ) → n + 32 ≤ length xs → remainder n (xs ++ ys) ≡ remainder n xs ++ ys
unfolding remainder_by
remainder_prefix zero xs ys within = refl
remainder_prefix (suc n) [] ys within = absurd (omega arith)
remainder_prefix (suc n) (x ∷ xs) ys within = each (λ zs long. remainder_prefix n zs ys long) (eqb x 1) where
  by : List ℕ
  by = bits 32 divisor

  each : ((zs : List ℕ) → n + 32 ≤ length zs → remainder n (zs ++ ys) ≡ remainder n zs ++ ys) → (taken : Bool)
      → remainder n (cond taken (plus_prefix (xs ++ ys) by) (xs ++ ys)) ≡ remainder n (cond taken (plus_prefix xs by) xs) ++ ys
  each below true =
      ap (remainder n) (plus_prefix_within xs ys by (omega (arith, length-bits 32 divisor)))
      ∙ below (plus_prefix xs by) (omega (arith, length-plus_prefix xs by))
  each below false = below xs (omega arith)

-- the number of 32 bits has no more
number_of-below : (l : List ℕ) → length l ≡ 32 → All IsBit l → number_of l < 2 ^ 32
number_of-below l size each =
    let whole : number_of l ≡ number_of l % 2 ^ 32 = ap number_of (sym (bits-number_of l 32 size each)) ∙ number_of-bits 32 (number_of l) in
    omega (arith, whole)

-- the number of a sum of 32 bits each
number_of-sum : (xs ys : List ℕ) → length xs ≡ 32 → length ys ≡ 32 → All IsBit xs → All IsBit ys
    → number_of (plus_prefix xs ys) ≡ bit_xor (number_of xs) (number_of ys)
number_of-sum xs ys size_xs size_ys all_xs all_ys =
    let a : ℕ = number_of xs in
    let b : ℕ = number_of ys in
    let below : bit_xor a b < 2 ^ 32 = xor_lt 32 a b (number_of-below xs size_xs all_xs) (number_of-below ys size_ys all_ys) in
    ap (λ (l : List ℕ). number_of (plus_prefix l ys)) (sym (bits-number_of xs 32 size_xs all_xs))
    ∙ ap (λ (l : List ℕ). number_of (plus_prefix (bits 32 a) l)) (sym (bits-number_of ys 32 size_ys all_ys))
    ∙ ap number_of (plus_prefix-bits 32 a b)
    ∙ number_of-bits 32 (bit_xor a b)
    ∙ (let whole : bit_xor a b % 2 ^ 32 ≡ bit_xor a b = omega arith in whole)

-- the number of what division leaves of a sum
remainder-sum : (n : ℕ) (xs ys : List ℕ) → length xs ≡ n + 32 → length ys ≡ n + 32 → All IsBit xs → All IsBit ys
    → number_of (remainder n (plus_prefix xs ys)) ≡ bit_xor (number_of (remainder n xs)) (number_of (remainder n ys))
remainder-sum n xs ys size_xs size_ys all_xs all_ys =
    ap number_of (divided_sum n xs ys size_xs size_ys all_xs all_ys)
    ∙ number_of-sum (remainder n xs) (remainder n ys)
    (omega (arith, length-remainder n xs (omega arith)))
    (omega (arith, length-remainder n ys (omega arith)))
    (bits-remainder n xs all_xs) (bits-remainder n ys all_ys)

-- a sum of bits, each with zeros after it
padded-sum : (a b n m : ℕ) → plus_prefix (bits n a ++ replicate m 0) (bits n b ++ replicate m 0) ≡ bits n (bit_xor a b) ++ replicate m 0
padded-sum a b n m =
    plus_prefix-append (bits n a) (bits n b) (replicate m 0) (replicate m 0) (length-bits n a ∙ sym (length-bits n b))
    ∙ ap (λ (l : List ℕ). l ++ plus_prefix (replicate m 0) (replicate m 0)) (plus_prefix-bits n a b)
    ∙ ap (λ (l : List ℕ). bits n (bit_xor a b) ++ l) (plus_prefix_self (replicate m 0) ∙ ap (λ (k : ℕ). replicate k 0) (length-replicate {A = ℕ} m 0))

-- what is left of the sum of two bytes
pub byte_remainder-sum : (m a b : ℕ) → byte_remainder m (bit_xor a b) ≡ bit_xor (byte_remainder m a) (byte_remainder m b)
unfolding byte_remainder padded
byte_remainder-sum m a b =
    ap (λ (l : List ℕ). number_of (remainder (8 * (m + 1)) l)) (sym (padded-sum a b 8 (8 * m + 32)))
    ∙ remainder-sum (8 * (m + 1)) (padded m a) (padded m b) (length-padded m a) (length-padded m b) (bits-padded m a) (bits-padded m b)

-- 32 bits and a byte of zeros
register : ℕ → List ℕ
register x = bits 32 x ++ replicate 8 0

-- what is left of a register once a byte of zeros is read
next : ℕ → ℕ
next x = number_of (remainder 8 (register x))

-- a register is 40 bits
length-register : (x : ℕ) → length (register x) ≡ 40
unfolding register
length-register x = omega (arith, length-append (bits 32 x) (replicate 8 0), length-bits 32 x, length-replicate {A = ℕ} 8 0)

-- which are bits
bits-register : (x : ℕ) → All IsBit (register x)
unfolding register
bits-register x = All-append IsBit (bits 32 x) (replicate 8 0) (bits-bits 32 x) (All-replicate IsBit 8 0 (omega arith))

-- the next of a sum
next-sum : (a b : ℕ) → next (bit_xor a b) ≡ bit_xor (next a) (next b)
unfolding next register
next-sum a b =
    ap (λ (l : List ℕ). number_of (remainder 8 l)) (sym (padded-sum a b 32 8))
    ∙ remainder-sum 8 (register a) (register b) (length-register a) (length-register b) (bits-register a) (bits-register b)

-- one byte of zeros more
byte_more : (m byte : ℕ) → byte_remainder (m + 1) byte ≡ next (byte_remainder m byte)
unfolding byte_remainder padded next register
byte_more m byte =
    let steps : 8 * (m + 1 + 1) ≡ 8 * (m + 1) + 8 = omega arith in
    let zeros : 8 * (m + 1) + 32 ≡ 8 * m + 32 + 8 = omega arith in
    let n : ℕ = 8 * (m + 1) in
    let longer : padded (m + 1) byte ≡ padded m byte ++ replicate 8 0 =
    ap (λ (k : ℕ). bits 8 byte ++ replicate k 0) zeros
    ∙ ap (λ (l : List ℕ). bits 8 byte ++ l) (sym (replicate-append-replicate (8 * m + 32) 8 0))
    ∙ sym (append_assoc (bits 8 byte) (replicate (8 * m + 32) 0) (replicate 8 0)) in
    ap (λ (k : ℕ). number_of (remainder k (padded (m + 1) byte))) steps
    ∙ ap (λ (l : List ℕ). number_of (remainder (n + 8) l)) longer
    ∙ ap number_of (remainder_by_twice (bits 32 divisor) n 8 (padded m byte ++ replicate 8 0))
    ∙ ap (λ (l : List ℕ). number_of (remainder 8 l)) (remainder_prefix n (padded m byte) (replicate 8 0) (omega (arith, length-padded m byte)))
    ∙ ap (λ (l : List ℕ). number_of (remainder 8 (l ++ replicate 8 0))) (sym (bits-byte_remainder m byte))

-- each term is the sum of those a - b, a - c and a places before it
abbrev pub Folds : (ℕ → ℕ) → ℕ → ℕ → ℕ → Type 0
Folds f a b c = (m : ℕ) → f (m + a) ≡ bit_xor (bit_xor (f (m + b)) (f (m + c))) (f m)

-- a sum of nine, in which what is added twice falls out
xor_nine : (p q b r c m : ℕ)
    → bit_xor (bit_xor (bit_xor (bit_xor p q) b) (bit_xor (bit_xor q r) c)) (bit_xor (bit_xor b c) m) ≡ bit_xor (bit_xor p r) m
xor_nine p q b r c m = same_from_bits _ _ (λ i. simp bit_at_xor (omega arith))

-- what folds at some distances folds at twice these
Folds-doubled : (f : ℕ → ℕ) (a b c : ℕ) → Folds f a b c → Folds f (a + a) (b + b) (c + c)
Folds-doubled f a b c folds m =
    let at : m + (a + a) ≡ m + a + a = omega arith in
    let swapped : m + a + b ≡ m + b + a = omega arith in
    let middle : m + a + c ≡ m + c + a = omega arith in
    let cross : m + c + b ≡ m + b + c = omega arith in
    let twice_b : m + b + b ≡ m + (b + b) = omega arith in
    let twice_c : m + c + c ≡ m + (c + c) = omega arith in
    ap f at
    ∙ folds (m + a)
    ∙ ap (λ (x : ℕ). bit_xor (bit_xor x (f (m + a + c))) (f (m + a))) (ap f swapped ∙ folds (m + b))
    ∙ ap (λ (x : ℕ). bit_xor (bit_xor (bit_xor (bit_xor (f (m + b + b)) (f (m + b + c))) (f (m + b))) x) (f (m + a)))
    (ap f middle ∙ folds (m + c) ∙ ap (λ (k : ℕ). bit_xor (bit_xor (f k) (f (m + c + c))) (f (m + c))) cross)
    ∙ ap (bit_xor (bit_xor (bit_xor (bit_xor (f (m + b + b)) (f (m + b + c))) (f (m + b))) (bit_xor (bit_xor (f (m + b + c)) (f (m + c + c))) (f (m + c)))))
    (folds m)
    ∙ xor_nine (f (m + b + b)) (f (m + b + c)) (f (m + b)) (f (m + c + c)) (f (m + c)) (f m)
    ∙ ap (λ (k : ℕ). bit_xor (bit_xor (f k) (f (m + c + c))) (f m)) twice_b
    ∙ ap (λ (k : ℕ). bit_xor (bit_xor (f (m + (b + b))) (f k)) (f m)) twice_c

-- the sum of what is left of a byte with 31, with 4 and with no bytes of zeros after it
three_left : ℕ → ℕ
three_left byte = bit_xor (bit_xor (byte_remainder 31 byte) (byte_remainder 4 byte)) (byte_remainder 0 byte)

-- computed over all bytes: it is what is left with 32 of them
all_left : map (byte_remainder 32) (range_with_len 0 256) ≡ map three_left (range_with_len 0 256)
unfolding byte_remainder remainder_by plus_prefix bits three_left
all_left = (bytes_eq-Decides _ _).0 refl

-- the same of one byte
byte_left : (byte : ℕ) → byte < 256 → byte_remainder 32 byte ≡ three_left byte
byte_left byte below =
    sym (get_or-map-range_with_len (byte_remainder 32) 0 256 byte byte 0 below (zero-add byte))
    ∙ ap (λ (l : List ℕ). get_or l byte 0) all_left
    ∙ get_or-map-range_with_len three_left 0 256 byte byte 0 below (zero-add byte)

-- the bits above the lowest eight don't count
byte_remainder-mod : (m byte : ℕ) → byte_remainder m (byte % 2 ^ 8) ≡ byte_remainder m byte
unfolding byte_remainder
byte_remainder-mod m byte = ap (λ (l : List ℕ). number_of (remainder (8 * (m + 1)) (l ++ replicate (8 * m + 32) 0))) (bits-mod 8 byte)

-- what is left of a byte, by the number of zeros after it
abbrev left : ℕ → ℕ → ℕ
left byte m = byte_remainder m byte

-- the divisor's eighth power: bytes of zeros in place of its bits
bytes_fold : (byte : ℕ) → Folds (left byte) 32 31 4
unfolding three_left
bytes_fold byte zero =
    let below : byte % 2 ^ 8 < 256 = omega arith in
    sym (byte_remainder-mod 32 byte) ∙ byte_left (byte % 2 ^ 8) below
    ∙ ap (λ (x : ℕ). bit_xor (bit_xor x (byte_remainder 4 (byte % 2 ^ 8))) (byte_remainder 0 (byte % 2 ^ 8))) (byte_remainder-mod 31 byte)
    ∙ ap (λ (x : ℕ). bit_xor (bit_xor (byte_remainder 31 byte) x) (byte_remainder 0 (byte % 2 ^ 8))) (byte_remainder-mod 4 byte)
    ∙ ap (bit_xor (bit_xor (byte_remainder 31 byte) (byte_remainder 4 byte))) (byte_remainder-mod 0 byte)
bytes_fold byte (suc m) =
    let more : (n : ℕ) → left byte (suc m + n) ≡ next (left byte (m + n)) =
    λ n. let shape : suc m + n ≡ m + n + 1 = omega arith in ap (left byte) shape ∙ byte_more (m + n) byte in
    let last : left byte (suc m) ≡ next (left byte m) =
    (let shape : suc m ≡ m + 1 = omega arith in ap (left byte) shape ∙ byte_more m byte) in
    more 32 ∙ ap next (bytes_fold byte m)
    ∙ next-sum (bit_xor (left byte (m + 31)) (left byte (m + 4))) (left byte m)
    ∙ ap (λ (x : ℕ). bit_xor x (next (left byte m))) (next-sum (left byte (m + 31)) (left byte (m + 4)))
    ∙ rw (more 31, more 4, last) refl

-- and its powers by further powers of two
pub powers_fold : (k byte : ℕ) → Folds (left byte) (32 * 2 ^ k) (31 * 2 ^ k) (4 * 2 ^ k)
powers_fold zero byte = bytes_fold byte
powers_fold (suc k) byte =
    let power : 2 ^ suc k ≡ 2 * 2 ^ k = omega (arith, pow-suc 2 k) in
    let a : 32 * 2 ^ suc k ≡ 32 * 2 ^ k + 32 * 2 ^ k = omega (arith, power) in
    let b : 31 * 2 ^ suc k ≡ 31 * 2 ^ k + 31 * 2 ^ k = omega (arith, power) in
    let c : 4 * 2 ^ suc k ≡ 4 * 2 ^ k + 4 * 2 ^ k = omega (arith, power) in
    λ m.
    ap (λ (d : ℕ). left byte (m + d)) a
    ∙ Folds-doubled (left byte) (32 * 2 ^ k) (31 * 2 ^ k) (4 * 2 ^ k) (powers_fold k byte) m
    ∙ ap (λ (d : ℕ). bit_xor (bit_xor (left byte (m + d)) (left byte (m + (4 * 2 ^ k + 4 * 2 ^ k)))) (left byte m)) (sym b)
    ∙ ap (λ (d : ℕ). bit_xor (bit_xor (left byte (m + 31 * 2 ^ suc k)) (left byte (m + d))) (left byte m)) (sym c)
