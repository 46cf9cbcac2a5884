-- A register of at most sixteen bytes in a number of 128 bits: its bytes after a shift and after a sum, the step of the
-- division, and that a step of a sum is the sum of two steps.
use Rattle.std.proofs.Common.{◌≡◌, ℕ, zero, suc, ◌+◌, ◌-◌, ◌*◌, ◌/◌, ◌%◌, ◌^◌, ◌<◌, ◌≤◌, List, [], ◌∷◌, ◌++◌, length, get_or, take, replicate, refl, sym, ap, subst, ◌∙◌, arith, length-append, append_assoc}
use Rattle.std.specs.Int.{byte_at, to_be_bytes, w128}
use Rattle.std.proofs.Math.Nat.{div-div-eq-div-mul, pow-succ'}
use Rattle.std.proofs.lemmas.Nat.{xor_shr, xor_mod, xor_lt, xor_block, shr_below, mod-pow-add}
use Rattle.std.proofs.lemmas.List.{append_cancel_left, take_at, length-replicate, replicate_more, replicate-append-replicate}
use Rattle.coding.specs.Field.{plus}
use Rattle.gf_field.proofs.FieldLaws.{plus-byte, plus-product, plus-pairs, plus-zero, plus-self}
use Rattle.rs_code.specs.Inner.Polynomials.{sum_of, mul_scalar, IsRemainder}
use Rattle.rs_code.specs.Inner.Registers.{register_bytes, Holds, HasMultiples, after_byte}
use Rattle.rs_code.proofs.Ring.{ring}
use Rattle.rs_code.proofs.Values.{length-sum_of, length-mul_scalar}
use Rattle.rs_code.proofs.Remainders.{next_register, IsRemainder-start, IsRemainder-next}

-- ---- bytes of a number

-- the lowest k bytes are k bytes
pub length-register_bytes : (k n : ℕ) → length (register_bytes k n) ≡ k
unfolding register_bytes
length-register_bytes zero n = refl
length-register_bytes (suc k) n = ap suc (length-register_bytes k n)

-- a higher byte of a number is the byte below it of what is above the lowest one
byte_at-higher : (k n : ℕ) → byte_at (suc k) n ≡ byte_at k (n / 256)
byte_at-higher zero n = omega arith
byte_at-higher (suc k) n =
    ap (λ m. n / m % 256) (pow-succ' 256 (suc k)) ∙ ap (λ m. m % 256) (sym (div-div-eq-div-mul n 256 (256 ^ suc k)))

-- the upper bytes, and the lowest one
pub register_bytes-last : (k n : ℕ) → register_bytes (suc k) n ≡ register_bytes k (n / 256) ++ n % 256 ∷ []
unfolding register_bytes
register_bytes-last zero n = refl
register_bytes-last (suc k) n = rw (byte_at-higher k n, register_bytes-last k n) refl

-- the highest byte, and those below it
pub register_bytes-first : (k n : ℕ) → register_bytes (suc k) n ≡ byte_at k n ∷ register_bytes k n
unfolding register_bytes
register_bytes-first k n = refl

-- joined words are summed part by part
sum_of-append : (a b c d : List ℕ) → length a ≡ length b → sum_of (a ++ c) (b ++ d) ≡ sum_of a b ++ sum_of c d
unfolding sum_of
sum_of-append [] [] c d same = refl
sum_of-append [] (y ∷ b) c d same = absurd (omega arith)
sum_of-append (x ∷ a) [] c d same = absurd (omega arith)
sum_of-append (x ∷ a) (y ∷ b) c d same = ap (λ xs. plus x y ∷ xs) (sum_of-append a b c d (omega arith))

-- the sum of two words of one byte is the byte of their sum
sum_of-one : (x y : ℕ) → sum_of (x ∷ []) (y ∷ []) ≡ plus x y ∷ []
unfolding sum_of
sum_of-one x y = refl

-- the sum of the empty word with another is empty
sum_of-nil : (ys : List ℕ) → sum_of [] ys ≡ []
unfolding sum_of
sum_of-nil ys = refl

-- the lowest 0 bytes of a number are the empty list
register_bytes-none : (n : ℕ) → register_bytes 0 n ≡ []
unfolding register_bytes
register_bytes-none n = refl

-- a sum of numbers is a sum of their bytes
pub register_bytes-plus : (k a b : ℕ) → register_bytes k (plus a b) ≡ sum_of (register_bytes k a) (register_bytes k b)
register_bytes-plus zero a b = register_bytes-none (plus a b) ∙ rw (register_bytes-none a, register_bytes-none b) (sym (sum_of-nil []))
register_bytes-plus (suc k) a b =
    let upper : plus a b / 256 ≡ plus (a / 256) (b / 256) = xor_shr a b 8 in
    let lowest : plus a b % 256 ≡ plus (a % 256) (b % 256) = xor_mod a b 8 in
    register_bytes-last k (plus a b)
    ∙ rw (upper, lowest, register_bytes-plus k (a / 256) (b / 256), register_bytes-last k a, register_bytes-last k b)
    (sym (sum_of-append (register_bytes k (a / 256)) (register_bytes k (b / 256)) (a % 256 ∷ []) (b % 256 ∷ []) (length-register_bytes k (a / 256) ∙ sym (length-register_bytes k (b / 256)))
    ∙ ap (λ xs. sum_of (register_bytes k (a / 256)) (register_bytes k (b / 256)) ++ xs) (sum_of-one (a % 256) (b % 256))))

-- the lowest k bytes don't depend on the others
pub register_bytes-rest : (k n : ℕ) → register_bytes k (n % 2 ^ (8 * k)) ≡ register_bytes k n
register_bytes-rest zero n = register_bytes-none (n % 2 ^ (8 * 0)) ∙ sym (register_bytes-none n)
register_bytes-rest (suc k) n =
    let more : 8 * suc k ≡ 8 * k + 8 = omega arith in
    let split : n % 2 ^ (8 * suc k) ≡ (n / 256 % 2 ^ (8 * k)) * 256 + n % 256 = ap (λ m. n % 2 ^ m) more ∙ mod-pow-add n (8 * k) 8 in
    let upper : n % 2 ^ (8 * suc k) / 256 ≡ n / 256 % 2 ^ (8 * k) = omega arith in
    let lowest : n % 2 ^ (8 * suc k) % 256 ≡ n % 256 = omega arith in
    register_bytes-last k (n % 2 ^ (8 * suc k)) ∙ rw (upper, lowest, register_bytes-rest k (n / 256)) (sym (register_bytes-last k n))

-- ---- sums and multiples

-- a multiple by a sum is the sum of the multiples
pub mul_scalar-plus : (a b : ℕ) (word : List ℕ) → mul_scalar (plus a b) word ≡ sum_of (mul_scalar a word) (mul_scalar b word)
unfolding mul_scalar sum_of
mul_scalar-plus a b [] = refl
mul_scalar-plus a b (byte ∷ word) = rw (plus-product a b byte, mul_scalar-plus a b word) refl

-- a sum of zeros is zeros
sum_of-zeros_both : (n : ℕ) → sum_of (replicate n 0) (replicate n 0) ≡ replicate n 0
unfolding sum_of
sum_of-zeros_both zero = refl
sum_of-zeros_both (suc n) = rw (plus-self 0, sum_of-zeros_both n) refl

-- the sum of two registers holds the sum of their words
pub Holds-plus : (x y : ℕ) (a b : List ℕ) → length a ≡ length b → Holds x a → Holds y b → Holds (plus x y) (sum_of a b)
Holds-plus x y a b same in_x in_y =
    let long : length (sum_of a b) ≡ length a = length-sum_of a b same in
    register_bytes-plus 16 x y
    ∙ rw (in_x, in_y, long, ← same)
    (sum_of-append a b (replicate (16 - length a) 0) (replicate (16 - length a) 0) same ∙ ap (λ xs. sum_of a b ++ xs) (sum_of-zeros_both (16 - length a)))

-- a list of n zeros has length n
length-zeros : (n : ℕ) → length {A = ℕ} (replicate n 0) ≡ n
length-zeros n = length-replicate n 0

-- the sixteen bytes of 0 are zeros
register_bytes-zero : register_bytes 16 0 ≡ replicate 16 0
unfolding register_bytes
register_bytes-zero = refl

-- the register 0 holds zeros
pub Holds-zeros : (n : ℕ) → n ≤ 16 → Holds 0 (replicate n 0)
Holds-zeros n fits =
    let long = length-zeros n in
    let whole : n + (16 - n) ≡ 16 = omega arith in
    rw long (register_bytes-zero ∙ sym (replicate-append-replicate n (16 - n) 0 ∙ ap (λ m. replicate m 0) whole))

-- ---- a byte leaves the register

-- a number shifted up by one byte loses its first byte and gets a zero at the end
register_bytes-left : (n : ℕ) → n < 2 ^ 128 → register_bytes 16 (n * 256 % 2 ^ 128) ≡ register_bytes 15 n ++ 0 ∷ []
register_bytes-left n is_word =
    let upper : n * 256 % 2 ^ 128 / 256 ≡ n % 2 ^ (8 * 15) = omega arith in
    let lowest : n * 256 % 2 ^ 128 % 256 ≡ 0 = omega arith in
    register_bytes-last 15 (n * 256 % 2 ^ 128) ∙ rw (upper, lowest, register_bytes-rest 15 n) refl

-- a register's upper byte is the first that it holds, and its lower fifteen are the others with zeros after them
Holds-parts : (n first : ℕ) (rest : List ℕ) → n < 2 ^ 128 → Holds n (first ∷ rest) → (n / 2 ^ 120 ≡ first) × (register_bytes 15 n ≡ rest ++ replicate (16 - length (first ∷ rest)) 0)
Holds-parts n first rest is_word holds =
    let parts : byte_at 15 n ∷ register_bytes 15 n ≡ first ∷ (rest ++ replicate (16 - length (first ∷ rest)) 0) = sym (register_bytes-first 15 n) ∙ holds in
    let top : byte_at 15 n ≡ n / 2 ^ 120 = omega arith in
    let is_first : byte_at 15 n ≡ first = cc in
    let is_rest : register_bytes 15 n ≡ rest ++ replicate (16 - length (first ∷ rest)) 0 = cc in
    (sym top ∙ is_first, is_rest)

-- a register shifted up holds its word without the first byte, and a zero after it
Holds-left : (n first : ℕ) (rest : List ℕ) → n < 2 ^ 128 → Holds n (first ∷ rest) → Holds (n * 256 % 2 ^ 128) (rest ++ 0 ∷ [])
Holds-left n first rest is_word holds =
    let zeros = 16 - length (first ∷ rest) in
    let same : length (rest ++ 0 ∷ []) ≡ length (first ∷ rest) = length-append rest (0 ∷ []) ∙ omega arith in
    let turned : replicate zeros 0 ++ 0 ∷ [] ≡ 0 ∷ replicate zeros 0 = (let more : zeros + 1 ≡ suc zeros = omega arith in replicate_more zeros 0 ∙ ap (λ m. replicate m 0) more) in
    register_bytes-left n is_word
    ∙ ap (λ xs. xs ++ 0 ∷ []) (Holds-parts n first rest is_word holds).1
    ∙ append_assoc rest (replicate zeros 0) (0 ∷ [])
    ∙ ap (λ xs. rest ++ xs) turned
    ∙ sym (append_assoc rest (0 ∷ []) (replicate zeros 0))
    ∙ ap (λ m. (rest ++ 0 ∷ []) ++ replicate (16 - m) 0) (sym same)

-- the shifted register and a multiple of the generator are the next register
Holds-next : (generator : List ℕ) (n byte entry first : ℕ) (rest : List ℕ)
    → n < 2 ^ 128
    → length (first ∷ rest) ≡ length generator
    → Holds n (first ∷ rest)
    → Holds entry (mul_scalar (plus first byte) generator)
    → Holds (plus (n * 256 % 2 ^ 128) entry) (next_register generator (first ∷ rest) byte)
unfolding next_register
Holds-next generator n byte entry first rest is_word long holds in_entry =
    let same : length (rest ++ 0 ∷ []) ≡ length (mul_scalar (plus first byte) generator) = length-append rest (0 ∷ []) ∙ omega (arith, length-mul_scalar (plus first byte) generator) in
    Holds-plus (n * 256 % 2 ^ 128) entry (rest ++ 0 ∷ []) (mul_scalar (plus first byte) generator) same (Holds-left n first rest is_word holds) in_entry

-- ---- the remainder in the register

-- the register holds the remainder of what was read
pub record HoldsRemainder (generator read : List ℕ) (register : ℕ) : Type 0 where
  pub remainder : IsRemainder generator read (take (length generator) (register_bytes 16 register))
  pub zeros : Holds register (take (length generator) (register_bytes 16 register))

-- a register that holds a remainder's bytes holds the remainder
HoldsRemainder-from : (generator read bytes : List ℕ) (n : ℕ) → IsRemainder generator read bytes → Holds n bytes → HoldsRemainder generator read n
HoldsRemainder-from generator read bytes n is holds =
    let upper : bytes ≡ take (length generator) (register_bytes 16 n) = sym (ap (take (length generator)) holds ∙ take_at bytes (replicate (16 - length bytes) 0) (length generator) is.size) in
    record {
      remainder = subst (λ xs. IsRemainder generator read xs) upper is;
      zeros = subst (λ xs. Holds n xs) upper holds;
    }

-- before anything is read the register 0 holds the remainder
pub HoldsRemainder-start : (generator : List ℕ) → length generator ≤ 16 → HoldsRemainder generator [] 0
HoldsRemainder-start generator fits =
    HoldsRemainder-from generator [] (replicate (length generator) 0) 0 (IsRemainder-start generator) (Holds-zeros (length generator) fits)

-- one step of the division keeps the remainder, where the register's bytes are given as a list
next_by_list : (generator read bytes table : List ℕ) (n byte : ℕ)
    → n < 2 ^ 128
    → byte < 256
    → 0 < length generator
    → HasMultiples generator table 256
    → IsRemainder generator read bytes
    → Holds n bytes
    → HoldsRemainder generator (read ++ byte ∷ []) (plus (n * 256 % 2 ^ 128) (get_or table (plus (n / 2 ^ 120) byte) 0))
next_by_list generator read [] table n byte is_word is_byte some_degree has is holds = let long : 0 ≡ length generator = is.size in absurd (omega arith)
next_by_list generator read (first ∷ rest) table n byte is_word is_byte some_degree has is holds =
    let top : n / 2 ^ 120 ≡ first = (Holds-parts n first rest is_word holds).0 in
    let small : plus first byte < 256 = rw (← top) (plus-byte (n / 2 ^ 120) byte (omega arith) is_byte) in
    let entry = has (plus first byte) small in
    rw top (HoldsRemainder-from generator (read ++ byte ∷ []) (next_register generator (first ∷ rest) byte) (plus (n * 256 % 2 ^ 128) (get_or table (plus first byte) 0))
    (IsRemainder-next generator read first rest byte is_byte is)
    (Holds-next generator n byte (get_or table (plus first byte) 0) first rest is_word is.size holds entry))

-- one step of the division keeps the remainder
pub HoldsRemainder-next : (generator read table : List ℕ) (n byte : ℕ)
    → n < 2 ^ 128
    → byte < 256
    → 0 < length generator
    → HasMultiples generator table 256
    → HoldsRemainder generator read n
    → HoldsRemainder generator (read ++ byte ∷ []) (after_byte table n byte)
unfolding after_byte
HoldsRemainder-next generator read table n byte is_word is_byte some_degree has before =
    next_by_list generator read (take (length generator) (register_bytes 16 n)) table n byte is_word is_byte some_degree has before.remainder before.zeros

-- the bytes that are written are the register's first
pub written_is : (n size : ℕ) (bytes written : List ℕ) → bytes ≡ to_be_bytes w128 n → written ≡ take size bytes → written ≡ take size (register_bytes 16 n)
unfolding register_bytes
written_is n size bytes written are is = is ∙ ap (take size) are

-- ---- steps of sums

-- the number is known by its bytes
register_bytes-same : (k a b : ℕ) → a < 2 ^ (8 * k) → b < 2 ^ (8 * k) → register_bytes k a ≡ register_bytes k b → a ≡ b
register_bytes-same zero a b below_a below_b same = omega (arith, below_a, below_b)
register_bytes-same (suc k) a b below_a below_b same =
    let more : 8 * suc k ≡ 8 * k + 8 = omega arith in
    let upper_a : a / 2 ^ 8 < 2 ^ (8 * k) = shr_below a (8 * k) 8 (rw (← more) below_a) in
    let upper_b : b / 2 ^ 8 < 2 ^ (8 * k) = shr_below b (8 * k) 8 (rw (← more) below_b) in
    let both : register_bytes k (a / 256) ++ a % 256 ∷ [] ≡ register_bytes k (b / 256) ++ b % 256 ∷ [] = sym (register_bytes-last k a) ∙ same ∙ register_bytes-last k b in
    let prefixes : register_bytes k (a / 256) ≡ register_bytes k (b / 256) =
    sym (take_at (register_bytes k (a / 256)) (a % 256 ∷ []) k (length-register_bytes k (a / 256)))
    ∙ ap (take k) both ∙ take_at (register_bytes k (b / 256)) (b % 256 ∷ []) k (length-register_bytes k (b / 256)) in
    let ends : a % 256 ∷ [] ≡ b % 256 ∷ [] = append_cancel_left (register_bytes k (a / 256)) (a % 256 ∷ []) (b % 256 ∷ []) (both ∙ ap (λ xs. xs ++ b % 256 ∷ []) (sym prefixes)) in
    let lowest : a % 256 ≡ b % 256 = cc in
    let upper : a / 256 ≡ b / 256 = register_bytes-same k (a / 256) (b / 256) upper_a upper_b prefixes in
    omega arith

-- the entry of a sum is the sum of the entries
entry-plus : (generator table : List ℕ) (a b : ℕ)
    → a < 256
    → b < 256
    → ((i : ℕ) → get_or table i 0 < 2 ^ 128)
    → HasMultiples generator table 256
    → get_or table (plus a b) 0 ≡ plus (get_or table a 0) (get_or table b 0)
entry-plus generator table a b byte_a byte_b words has =
    let in_sum : Holds (get_or table (plus a b) 0) (sum_of (mul_scalar a generator) (mul_scalar b generator)) = rw (mul_scalar-plus a b generator) at (has (plus a b) (plus-byte a b byte_a byte_b)) in
    let same : length (mul_scalar a generator) ≡ length (mul_scalar b generator) = length-mul_scalar a generator ∙ sym (length-mul_scalar b generator) in
    let by_parts = Holds-plus (get_or table a 0) (get_or table b 0) (mul_scalar a generator) (mul_scalar b generator) same (has a byte_a) (has b byte_b) in
    register_bytes-same 16 (get_or table (plus a b) 0) (plus (get_or table a 0) (get_or table b 0)) (words (plus a b)) (xor_lt 128 (get_or table a 0) (get_or table b 0) (words a) (words b)) (in_sum ∙ sym by_parts)

-- a shift of a sum is the sum of the shifts
left-plus : (a b : ℕ) → plus a b * 2 ^ 8 % 2 ^ 128 ≡ plus (a * 2 ^ 8 % 2 ^ 128) (b * 2 ^ 8 % 2 ^ 128)
left-plus a b =
    let block : plus (a * 2 ^ 8 + 0) (b * 2 ^ 8 + 0) ≡ plus a b * 2 ^ 8 + plus 0 0 = xor_block 8 a b 0 0 (omega arith) (omega arith) in
    let left : a * 2 ^ 8 + 0 ≡ a * 2 ^ 8 = omega arith in
    let right : b * 2 ^ 8 + 0 ≡ b * 2 ^ 8 = omega arith in
    let none : plus a b * 2 ^ 8 + 0 ≡ plus a b * 2 ^ 8 = omega arith in
    let whole : plus a b * 2 ^ 8 ≡ plus (a * 2 ^ 8) (b * 2 ^ 8) = cc (block, left, right, none, plus-self 0) in
    ap (λ m. m % 2 ^ 128) whole ∙ xor_mod (a * 2 ^ 8) (b * 2 ^ 8) 128

-- the register after one more byte is a number of 128 bits
pub after_byte-word : (table : List ℕ) (n byte : ℕ) → ((i : ℕ) → get_or table i 0 < 2 ^ 128) → after_byte table n byte < 2 ^ 128
unfolding after_byte
after_byte-word table n byte words = xor_lt 128 (n * 2 ^ 8 % 2 ^ 128) (get_or table (plus (n / 2 ^ 120) byte) 0) (omega arith) (words (plus (n / 2 ^ 120) byte))

-- the middle one of three summands comes out last
last_out : (m q b : ℕ) → plus (plus m q) b ≡ plus (plus m b) q
last_out m q b = simp ring

-- a step of a sum is the sum of a step with the byte and of one with zero
pub after_byte-sum : (generator table : List ℕ) (a b byte : ℕ)
    → a < 2 ^ 128
    → b < 2 ^ 128
    → byte < 256
    → ((i : ℕ) → get_or table i 0 < 2 ^ 128)
    → HasMultiples generator table 256
    → after_byte table (plus a b) byte ≡ plus (after_byte table a byte) (after_byte table b 0)
unfolding after_byte
after_byte-sum generator table a b byte word_a word_b is_byte words has =
    let top_a = plus (a / 2 ^ 120) byte in
    let top_b = b / 2 ^ 120 in
    let byte_a : top_a < 256 = plus-byte (a / 2 ^ 120) byte (omega arith) is_byte in
    let byte_b : top_b < 256 = omega arith in
    let factor : plus (plus a b / 2 ^ 120) byte ≡ plus top_a top_b = ap (λ m. plus m byte) (xor_shr a b 120) ∙ last_out (a / 2 ^ 120) top_b byte in
    let entries : get_or table (plus (plus a b / 2 ^ 120) byte) 0 ≡ plus (get_or table top_a 0) (get_or table (plus top_b 0) 0) =
    ap (λ m. get_or table m 0) factor ∙ entry-plus generator table top_a top_b byte_a byte_b words has ∙ ap (λ m. plus (get_or table top_a 0) (get_or table m 0)) (sym (plus-zero top_b)) in
    rw (left-plus a b, entries) (plus-pairs (a * 2 ^ 8 % 2 ^ 128) (b * 2 ^ 8 % 2 ^ 128) (get_or table top_a 0) (get_or table (plus top_b 0) 0))
