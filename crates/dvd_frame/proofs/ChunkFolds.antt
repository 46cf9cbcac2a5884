-- Bytes that are a quotient times a multiple of the divisor, and a rest: division leaves the same of the rest as of
-- all. What is left of bytes is a sum (left_of) over them.
use Rattle.std.proofs.Common.{◌≡◌, ℕ, zero, suc, ◌+◌, ◌*◌, ◌^◌, List, [], ◌∷◌, ◌++◌, length, refl, sym, ◌∙◌, ap, subst, zero-add, arith}
use Rattle.std.specs.Prelude.{bit_xor, replicate}
use Rattle.std.specs.Int.Bits.{xor_zero_l, xor_zero_r, xor_assoc, xor_self}
use Rattle.std.specs.Simd.Lanes.{zip2}
use Rattle.std.proofs.lemmas.List.{length-append}
use Rattle.std.proofs.lemmas.Nat.Bits.{bit_at_xor, same_from_bits}
use Rattle.coding.specs.BitDivision.{plus_prefix}
use Rattle.gf_field.proofs.BitDivision.{length-plus_prefix}
use Rattle.coding.specs.Bits.{bits}
use Rattle.dvd_frame.specs.Inner.Registers.{divided_from, byte_remainder}
use Rattle.dvd_frame.proofs.Division.{divided_from_zero}
use Rattle.dvd_frame.proofs.WordDivision.{remainders_sum, bits-remainders_sum}
use Rattle.dvd_frame.proofs.ByteFolds.{byte_remainder-sum, powers_fold}

-- what division leaves of bytes with m bytes of zeros after them
pub left_of : ℕ → List ℕ → ℕ
left_of m [] = 0
left_of m (byte ∷ bytes) = bit_xor (byte_remainder (m + length bytes) byte) (left_of m bytes)

-- with none after them, it is the sum of what is left of each
left_of-none : (bytes : List ℕ) → left_of 0 bytes ≡ remainders_sum bytes
unfolding left_of remainders_sum
left_of-none [] = refl
left_of-none (byte ∷ bytes) =
    let none : 0 + length bytes ≡ length bytes = omega arith in
    ap (λ (k : ℕ). bit_xor (byte_remainder k byte) (left_of 0 bytes)) none ∙ ap (bit_xor (byte_remainder (length bytes) byte)) (left_of-none bytes)

-- bytes of which the same number is left are divided alike
pub same_left : (xs ys : List ℕ) → left_of 0 xs ≡ left_of 0 ys → divided_from 0 xs ≡ divided_from 0 ys
same_left xs ys same = sym (is xs) ∙ ap (bits 32) same ∙ is ys where
  is : (bytes : List ℕ) → bits 32 (left_of 0 bytes) ≡ divided_from 0 bytes
  is bytes = ap (bits 32) (left_of-none bytes) ∙ bits-remainders_sum bytes ∙ sym (divided_from_zero bytes)

-- two lists, one after the other
left_of-append : (m : ℕ) (xs ys : List ℕ) → left_of m (xs ++ ys) ≡ bit_xor (left_of (m + length ys) xs) (left_of m ys)
unfolding left_of
left_of-append m [] ys = sym (xor_zero_l (left_of m ys))
left_of-append m (x ∷ xs) ys =
    let size : m + length (xs ++ ys) ≡ m + length ys + length xs = omega (arith, length-append xs ys) in
    ap (λ (k : ℕ). bit_xor (byte_remainder k x) (left_of m (xs ++ ys))) size
    ∙ ap (bit_xor (byte_remainder (m + length ys + length xs) x)) (left_of-append m xs ys)
    ∙ sym (xor_assoc (byte_remainder (m + length ys + length xs) x) (left_of (m + length ys) xs) (left_of m ys))

-- two sums, term by term
xor_pairs : (a b c d : ℕ) → bit_xor (bit_xor a b) (bit_xor c d) ≡ bit_xor (bit_xor a c) (bit_xor b d)
xor_pairs a b c d = same_from_bits _ _ (λ i. simp bit_at_xor (omega arith))

-- bytes added to those from place p on, r bytes from the end
left_of-plus : (xs added : List ℕ) (m p r : ℕ) → p + length added + r ≡ length xs
    → left_of m (plus_prefix xs (replicate p 0 ++ added)) ≡ bit_xor (left_of m xs) (left_of (m + r) added)
unfolding left_of plus_prefix
left_of-plus [] [] m zero r size = refl
left_of-plus (x ∷ xs) [] m zero r size = sym (xor_zero_r (left_of m (x ∷ xs)))
left_of-plus [] (y ∷ added) m zero r size = absurd (omega arith)
left_of-plus (x ∷ xs) (y ∷ added) m zero r size =
    let k : ℕ = m + length xs in
    let long : length (plus_prefix xs added) ≡ length xs = length-plus_prefix xs added in
    let past : m + r + length added ≡ k = omega arith in
    ap (λ (n : ℕ). bit_xor (byte_remainder (m + n) (bit_xor x y)) (left_of m (plus_prefix xs added))) long
    ∙ ap (λ (b : ℕ). bit_xor b (left_of m (plus_prefix xs added))) (byte_remainder-sum k x y)
    ∙ ap (bit_xor (bit_xor (byte_remainder k x) (byte_remainder k y))) (left_of-plus xs added m zero r (omega arith))
    ∙ xor_pairs (byte_remainder k x) (byte_remainder k y) (left_of m xs) (left_of (m + r) added)
    ∙ ap (λ (n : ℕ). bit_xor (bit_xor (byte_remainder k x) (left_of m xs)) (bit_xor (byte_remainder n y) (left_of (m + r) added))) (sym past)
left_of-plus [] added m (suc p) r size = absurd (omega arith)
left_of-plus (x ∷ xs) added m (suc p) r size =
    let long : length (plus_prefix xs (replicate p 0 ++ added)) ≡ length xs = length-plus_prefix xs (replicate p 0 ++ added) in
    ap (λ (n : ℕ). bit_xor (byte_remainder (m + n) (bit_xor x 0)) (left_of m (plus_prefix xs (replicate p 0 ++ added)))) long
    ∙ ap (λ (b : ℕ). bit_xor (byte_remainder (m + length xs) b) (left_of m (plus_prefix xs (replicate p 0 ++ added)))) (xor_zero_r x)
    ∙ ap (bit_xor (byte_remainder (m + length xs) x)) (left_of-plus xs added m p r (omega arith))
    ∙ sym (xor_assoc (byte_remainder (m + length xs) x) (left_of m xs) (left_of (m + r) added))

-- three sums, term by term
xor_triples : (a b c d e f : ℕ)
    → bit_xor (bit_xor (bit_xor a b) c) (bit_xor (bit_xor d e) f) ≡ bit_xor (bit_xor (bit_xor a d) (bit_xor b e)) (bit_xor c f)
xor_triples a b c d e f = same_from_bits _ _ (λ i. simp bit_at_xor (omega arith))

-- what is left of bytes with zeros after them follows the rule of each byte
left_of-folds : (k m : ℕ) (bytes : List ℕ)
    → left_of (m + 32 * 2 ^ k) bytes ≡ bit_xor (bit_xor (left_of (m + 31 * 2 ^ k) bytes) (left_of (m + 4 * 2 ^ k) bytes)) (left_of m bytes)
unfolding left_of
left_of-folds k m [] = sym (ap (λ (x : ℕ). bit_xor x 0) (xor_self 0) ∙ xor_self 0)
left_of-folds k m (byte ∷ bytes) =
    let n : ℕ = length bytes in
    let order : (d : ℕ) → m + n + d ≡ m + d + n = λ d. omega arith in
    let a : ℕ = byte_remainder (m + 31 * 2 ^ k + n) byte in
    let b : ℕ = byte_remainder (m + 4 * 2 ^ k + n) byte in
    let folded : byte_remainder (m + 32 * 2 ^ k + n) byte ≡ bit_xor (bit_xor a b) (byte_remainder (m + n) byte) =
    ap (λ (i : ℕ). byte_remainder i byte) (sym (order (32 * 2 ^ k)))
    ∙ powers_fold k byte (m + n)
    ∙ ap (λ (i : ℕ). bit_xor (bit_xor (byte_remainder i byte) (byte_remainder (m + n + 4 * 2 ^ k) byte)) (byte_remainder (m + n) byte)) (order (31 * 2 ^ k))
    ∙ ap (λ (i : ℕ). bit_xor (bit_xor a (byte_remainder i byte)) (byte_remainder (m + n) byte)) (order (4 * 2 ^ k)) in
    ap (λ (x : ℕ). bit_xor x (left_of (m + 32 * 2 ^ k) bytes)) folded
    ∙ ap (bit_xor (bit_xor (bit_xor a b) (byte_remainder (m + n) byte))) (left_of-folds k m bytes)
    ∙ xor_triples a b (byte_remainder (m + n) byte) (left_of (m + 31 * 2 ^ k) bytes) (left_of (m + 4 * 2 ^ k) bytes) (left_of m bytes)

-- bytes added to those from place p on, where no zeros come after the list
plus_before : (xs added : List ℕ) (p r : ℕ) → p + length added + r ≡ length xs
    → left_of 0 (plus_prefix xs (replicate p 0 ++ added)) ≡ bit_xor (left_of 0 xs) (left_of r added)
plus_before xs added p r size =
    left_of-plus xs added 0 p r size ∙ ap (λ (n : ℕ). bit_xor (left_of 0 xs) (left_of n added)) (zero-add r)

-- a sum of five in which three make the first
xor_quotient : (a b c d rest : ℕ) → a ≡ bit_xor (bit_xor b c) d → bit_xor (bit_xor (bit_xor (bit_xor a rest) b) c) d ≡ rest
xor_quotient a b c d rest is = ap (λ (x : ℕ). bit_xor (bit_xor (bit_xor (bit_xor x rest) b) c) d) is ∙ same_from_bits _ _ (λ i. simp bit_at_xor (omega arith))

-- Bytes that are a quotient and a rest: the quotient times the multiple of the divisor leaves nothing, so the rest
-- leaves what all leave.
pub rest_divided : (k w : ℕ) (bytes quotient rest : List ℕ) → w ≡ 2 ^ k → length quotient ≡ 33 * w → length rest ≡ 32 * w
    → bytes ≡ plus_prefix (plus_prefix (plus_prefix (quotient ++ rest) (replicate w 0 ++ quotient)) (replicate (28 * w) 0 ++ quotient)) (replicate (32 * w) 0 ++ quotient)
    → divided_from 0 rest ≡ divided_from 0 bytes
rest_divided k w bytes quotient rest power quotient_size rest_size bytes_are =
    let none : List ℕ = quotient ++ rest in
    let one : List ℕ = plus_prefix none (replicate w 0 ++ quotient) in
    let two : List ℕ = plus_prefix one (replicate (28 * w) 0 ++ quotient) in
    let three : List ℕ = plus_prefix two (replicate (32 * w) 0 ++ quotient) in
    let long_none : length none ≡ 65 * w = omega (arith, length-append quotient rest) in
    let long_one : length one ≡ 65 * w = length-plus_prefix none (replicate w 0 ++ quotient) ∙ long_none in
    let long_two : length two ≡ 65 * w = length-plus_prefix one (replicate (28 * w) 0 ++ quotient) ∙ long_one in
    let past : 0 + length rest ≡ 0 + 32 * w = omega arith in
    let whole : left_of 0 none ≡ bit_xor (left_of (0 + 32 * w) quotient) (left_of 0 rest) =
    left_of-append 0 quotient rest ∙ ap (λ (i : ℕ). bit_xor (left_of i quotient) (left_of 0 rest)) past in
    let first : left_of 0 one ≡ bit_xor (left_of 0 none) (left_of (31 * w) quotient) = plus_before none quotient w (31 * w) (omega arith) in
    let second : left_of 0 two ≡ bit_xor (left_of 0 one) (left_of (4 * w) quotient) = plus_before one quotient (28 * w) (4 * w) (omega arith) in
    let third : left_of 0 three ≡ bit_xor (left_of 0 two) (left_of 0 quotient) = plus_before two quotient (32 * w) 0 (omega arith) in
    let folds : left_of (0 + 32 * w) quotient ≡ bit_xor (bit_xor (left_of (31 * w) quotient) (left_of (4 * w) quotient)) (left_of 0 quotient) =
    subst (λ (n : ℕ). left_of (0 + 32 * n) quotient ≡ bit_xor (bit_xor (left_of (31 * n) quotient) (left_of (4 * n) quotient)) (left_of 0 quotient)) (sym power)
    (left_of-folds k 0 quotient
    ∙ ap (λ (n : ℕ). bit_xor (bit_xor (left_of n quotient) (left_of (0 + 4 * 2 ^ k) quotient)) (left_of 0 quotient)) (zero-add (31 * 2 ^ k))
    ∙ ap (λ (n : ℕ). bit_xor (bit_xor (left_of (31 * 2 ^ k) quotient) (left_of n quotient)) (left_of 0 quotient)) (zero-add (4 * 2 ^ k))) in
    same_left rest bytes
    (sym (ap (left_of 0) bytes_are ∙ third
    ∙ ap (λ (x : ℕ). bit_xor x (left_of 0 quotient))
    (second ∙ ap (λ (x : ℕ). bit_xor x (left_of (4 * w) quotient)) (first ∙ ap (λ (x : ℕ). bit_xor x (left_of (31 * w) quotient)) whole))
    ∙ xor_quotient (left_of (0 + 32 * w) quotient) (left_of (31 * w) quotient) (left_of (4 * w) quotient) (left_of 0 quotient) (left_of 0 rest) folds))

-- zeros in front change nothing
zeros_left_out : (n : ℕ) (bytes : List ℕ) → left_of 0 (replicate n 0 ++ bytes) ≡ left_of 0 bytes
unfolding left_of
zeros_left_out zero bytes = refl
zeros_left_out (suc n) bytes =
    let k : ℕ = 0 + length (replicate n 0 ++ bytes) in
    let nothing : byte_remainder k 0 ≡ 0 = byte_remainder-sum k 0 0 ∙ xor_self (byte_remainder k 0) in
    ap (λ (x : ℕ). bit_xor x (left_of 0 (replicate n 0 ++ bytes))) nothing ∙ xor_zero_l (left_of 0 (replicate n 0 ++ bytes)) ∙ zeros_left_out n bytes

-- a sum of vectors is the sum of the lists
pub plus_prefix-zip2 : (xs ys : List ℕ) → length xs ≡ length ys → zip2 bit_xor xs ys ≡ plus_prefix xs ys
unfolding plus_prefix
plus_prefix-zip2 [] [] same = refl
plus_prefix-zip2 [] (y ∷ ys) same = absurd (omega arith)
plus_prefix-zip2 (x ∷ xs) [] same = absurd (omega arith)
plus_prefix-zip2 (x ∷ xs) (y ∷ ys) same = ap (λ (l : List ℕ). bit_xor x y ∷ l) (plus_prefix-zip2 xs ys (omega arith))

-- lists of bytes with zeros in front are divided alike
pub zeros_divided : (n : ℕ) (bytes : List ℕ) → divided_from 0 (replicate n 0 ++ bytes) ≡ divided_from 0 bytes
zeros_divided n bytes = same_left (replicate n 0 ++ bytes) bytes (zeros_left_out n bytes)
