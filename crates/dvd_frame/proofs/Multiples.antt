-- A message followed by its EDC is a multiple of the divisor: the division of its bits leaves zeros.
use Rattle.std.proofs.Common.{◌≡◌, ℕ, zero, suc, ◌+◌, ◌*◌, ◌/◌, ◌%◌, ◌^◌, ◌<◌, ◌≤◌, Bool, true, false, cond, eqb, List, [], ◌∷◌, ◌++◌, length, All, refl, sym, ◌∙◌, ap, arith}
use Rattle.std.specs.Prelude.{bit_xor, replicate, fold}
use Rattle.std.specs.Int.{bit_at}
use Rattle.std.specs.Int.Bits.{xor_zero_l, xor_zero_r, xor_assoc, xor_self}
use Rattle.std.proofs.lemmas.List.{length-append, length-replicate, append_assoc, append-nil}
use Rattle.std.proofs.lemmas.List.Elements.{All-append, All-cons, All-nil, All-replicate, All-tail}
use Rattle.std.proofs.lemmas.List.Sums.{fold-append}
use Rattle.std.proofs.lemmas.Nat.{xor_comm, xor_lt}
use Rattle.std.proofs.lemmas.Nat.Bits.{bit_at-lt}
use Rattle.coding.specs.BitDivision.{plus_prefix, remainder_by}
use Rattle.gf_field.proofs.BitDivision.{length-plus_prefix}
use Rattle.coding.specs.Bits.{bits, bits_of, number_of}
use Rattle.dvd_frame.specs.Edc.{remainder, divisor, edc_of}
use Rattle.dvd_frame.specs.Id.{word_bytes}
use Rattle.dvd_frame.proofs.BitLists.{length-bits, bits_more, bits-mod, fold-bits}

-- a bit is 0 or 1
abbrev pub IsBit : ℕ → Type 0
IsBit b = b < 2

-- bits added to bits are bits
pub bits-plus_prefix : (xs ys : List ℕ) → All IsBit xs → All IsBit ys → All IsBit (plus_prefix xs ys)
unfolding plus_prefix
bits-plus_prefix xs [] first second = first
bits-plus_prefix [] (y ∷ ys) first second = All-nil IsBit
bits-plus_prefix (x ∷ xs) (y ∷ ys) first second =
    All-cons IsBit (bit_xor x y) (plus_prefix xs ys) (xor_lt 1 x y (first 0 x (omega arith)) (second 0 y (omega arith)))
    (bits-plus_prefix xs ys (All-tail IsBit x xs first) (All-tail IsBit y ys second))

-- two additions in the other order
pub plus_prefix_swap : (rest a b : List ℕ) → plus_prefix (plus_prefix rest a) b ≡ plus_prefix (plus_prefix rest b) a
unfolding plus_prefix
plus_prefix_swap rest [] b = refl
plus_prefix_swap rest (y ∷ a) [] = refl
plus_prefix_swap [] (y ∷ a) (z ∷ b) = refl
plus_prefix_swap (x ∷ rest) (y ∷ a) (z ∷ b) =
    ap (λ (bit : ℕ). bit ∷ plus_prefix (plus_prefix rest a) b) (xor_assoc x y z ∙ ap (bit_xor x) (xor_comm y z) ∙ sym (xor_assoc x z y))
    ∙ ap (λ (l : List ℕ). bit_xor (bit_xor x z) y ∷ l) (plus_prefix_swap rest a b)

-- a list and itself add up to zeros
pub plus_prefix_self : (xs : List ℕ) → plus_prefix xs xs ≡ replicate (length xs) 0
unfolding plus_prefix
plus_prefix_self [] = refl
plus_prefix_self (x ∷ xs) = ap (λ (b : ℕ). b ∷ plus_prefix xs xs) (xor_self x) ∙ ap (λ (l : List ℕ). 0 ∷ l) (plus_prefix_self xs)

-- a list added to zeros of its length is that list
pub zeros_plus : (tail : List ℕ) → plus_prefix (replicate (length tail) 0) tail ≡ tail
unfolding plus_prefix
zeros_plus [] = refl
zeros_plus (x ∷ tail) =
    ap (λ (b : ℕ). b ∷ plus_prefix (replicate (length tail) 0) tail) (xor_zero_l x) ∙ ap (λ (l : List ℕ). x ∷ l) (zeros_plus tail)

-- what follows a list, added to zeros that follow it
plus_behind : (xs tail : List ℕ) → plus_prefix (xs ++ replicate (length tail) 0) (replicate (length xs) 0 ++ tail) ≡ xs ++ tail
unfolding plus_prefix
plus_behind [] tail = zeros_plus tail
plus_behind (x ∷ xs) tail =
    ap (λ (b : ℕ). b ∷ plus_prefix (xs ++ replicate (length tail) 0) (replicate (length xs) 0 ++ tail)) (xor_zero_r x)
    ∙ ap (λ (l : List ℕ). x ∷ l) (plus_behind xs tail)

-- each step of the division takes one bit away
pub length-remainder : (n : ℕ) (ys : List ℕ) → n ≤ length ys → length (remainder n ys) + n ≡ length ys
unfolding remainder_by
length-remainder zero ys within = omega arith
length-remainder (suc n) [] within = absurd (omega arith)
length-remainder (suc n) (y ∷ ys) within = each (λ zs long. length-remainder n zs long) (eqb y 1) where
  each : ((zs : List ℕ) → n ≤ length zs → length (remainder n zs) + n ≡ length zs) → (taken : Bool)
      → length (remainder n (cond taken (plus_prefix ys (bits 32 divisor)) ys)) + suc n ≡ suc (length ys)
  each below true =
      let size : length (plus_prefix ys (bits 32 divisor)) ≡ length ys = length-plus_prefix ys (bits 32 divisor) in
      omega (arith, below (plus_prefix ys (bits 32 divisor)) (omega (arith, size)), size)
  each below false = omega (arith, below ys (omega arith))

-- the bits of a number are bits
pub bits-bits : (n number : ℕ) → All IsBit (bits n number)
unfolding bits
bits-bits zero number = All-nil IsBit
bits-bits (suc n) number = All-cons IsBit (bit_at number n) (bits n number) (bit_at-lt number n) (bits-bits n number)

-- the division of bits leaves bits
pub bits-remainder : (n : ℕ) (ys : List ℕ) → All IsBit ys → All IsBit (remainder n ys)
unfolding remainder_by
bits-remainder zero ys each = each
bits-remainder (suc n) [] each = All-nil IsBit
bits-remainder (suc n) (y ∷ ys) each = either (λ zs all. bits-remainder n zs all) (eqb y 1) where
  tail : All IsBit ys
  tail = All-tail IsBit y ys each

  either : ((zs : List ℕ) → All IsBit zs → All IsBit (remainder n zs)) → (taken : Bool) → All IsBit (remainder n (cond taken (plus_prefix ys (bits 32 divisor)) ys))
  either below true = below (plus_prefix ys (bits 32 divisor)) (bits-plus_prefix ys (bits 32 divisor) tail (bits-bits 32 divisor))
  either below false = below ys tail

-- what is added after the places that the division takes is added to what it leaves
remainder_behind : (n : ℕ) (ys tail : List ℕ) → n ≤ length ys → remainder n (plus_prefix ys (replicate n 0 ++ tail)) ≡ plus_prefix (remainder n ys) tail
unfolding remainder_by plus_prefix
remainder_behind zero ys tail within = refl
remainder_behind (suc n) [] tail within = absurd (omega arith)
remainder_behind (suc n) (y ∷ ys) tail within =
    ap (λ (b : ℕ). remainder (suc n) (b ∷ plus_prefix ys added)) (xor_zero_r y) ∙ each (λ zs long. remainder_behind n zs tail long) (eqb y 1)
  where
    added : List ℕ
    added = replicate n 0 ++ tail

    by : List ℕ
    by = bits 32 divisor

    each : ((zs : List ℕ) → n ≤ length zs → remainder n (plus_prefix zs added) ≡ plus_prefix (remainder n zs) tail) → (taken : Bool)
        → remainder n (cond taken (plus_prefix (plus_prefix ys added) by) (plus_prefix ys added)) ≡ plus_prefix (remainder n (cond taken (plus_prefix ys by) ys)) tail
    each below true = ap (remainder n) (plus_prefix_swap ys added by) ∙ below (plus_prefix ys by) (omega (arith, length-plus_prefix ys by))
    each below false = below ys (omega arith)

-- the bits of a number to which bits were read after a start: those of the start, and the bits read
bits-fold : (l : List ℕ) (k start : ℕ) → All IsBit l → bits (k + length l) (fold (λ (a x : ℕ). 2 * a + x) start l) ≡ bits k start ++ l
bits-fold [] k start each =
    let none : k + 0 ≡ k = omega arith in ap (λ (n : ℕ). bits n start) none ∙ sym (append-nil (bits k start))
bits-fold (b ∷ l) k start each =
    let more : k + suc (length l) ≡ suc k + length l = omega arith in
    ap (λ (n : ℕ). bits n (fold (λ (a x : ℕ). 2 * a + x) (2 * start + b) l)) more
    ∙ bits-fold l (suc k) (2 * start + b) (All-tail IsBit b l each)
    ∙ ap (λ (prefix : List ℕ). prefix ++ l) (bits_more k start b (each 0 b (omega arith)))
    ∙ append_assoc (bits k start) (b ∷ []) l

-- bits are those of the number that they make, as many as there are
pub bits-number_of : (l : List ℕ) (n : ℕ) → length l ≡ n → All IsBit l → bits n (number_of l) ≡ l
unfolding bits
bits-number_of l n size each =
    let none : 0 + length l ≡ n = omega arith in ap (λ (k : ℕ). bits k (number_of l)) (sym none) ∙ bits-fold l 0 0 each

-- the bits of bytes are bits
pub bits-bits_of : (bytes : List ℕ) → All IsBit (bits_of bytes)
unfolding bits_of
bits-bits_of [] = All-nil IsBit
bits-bits_of (byte ∷ bytes) = All-append IsBit (bits 8 byte) (bits_of bytes) (bits-bits 8 byte) (bits-bits_of bytes)

-- each byte has eight bits
pub length-bits_of : (bytes : List ℕ) → length (bits_of bytes) ≡ 8 * length bytes
unfolding bits_of
length-bits_of [] = refl
length-bits_of (byte ∷ bytes) = omega (arith, length-append (bits 8 byte) (bits_of bytes), length-bits 8 byte, length-bits_of bytes)

-- the bits of joined lists of bytes are their bits, joined
pub bits_of-append : (xs ys : List ℕ) → bits_of (xs ++ ys) ≡ bits_of xs ++ bits_of ys
unfolding bits_of
bits_of-append [] ys = refl
bits_of-append (x ∷ xs) ys =
    ap (λ (l : List ℕ). bits 8 x ++ l) (bits_of-append xs ys) ∙ sym (append_assoc (bits 8 x) (bits_of xs) (bits_of ys))

-- the number of bytes' bits
fold-bits_of : (byte : ℕ) (bytes : List ℕ) (start : ℕ) → fold (λ (a x : ℕ). 2 * a + x) start (bits_of (byte ∷ bytes))
    ≡ fold (λ (a x : ℕ). 2 * a + x) (start * 256 + byte % 256) (bits_of bytes)
unfolding bits_of
fold-bits_of byte bytes start =
    fold-append (λ (a x : ℕ). 2 * a + x) start (bits 8 byte) (bits_of bytes)
    ∙ ap (λ (from : ℕ). fold (λ (a x : ℕ). 2 * a + x) from (bits_of bytes)) (fold-bits 8 byte start)

-- where no bytes follow, the number stays
none_left : (number : ℕ) → fold (λ (a x : ℕ). 2 * a + x) number (bits_of []) ≡ number
unfolding bits_of
none_left number = refl

-- the bits of a word's bytes are the word's
pub bits_of-word_bytes : (word : ℕ) → bits_of (word_bytes word) ≡ bits 32 word
bits_of-word_bytes word =
    let first : ℕ = word / 16777216 % 256 in
    let second : ℕ = word / 65536 % 256 in
    let third : ℕ = word / 256 % 256 in
    let fourth : ℕ = word % 256 in
    let value : number_of (bits_of (word_bytes word)) ≡ word % 2 ^ 32 =
    fold-bits_of first (second ∷ third ∷ fourth ∷ []) 0 ∙ fold-bits_of second (third ∷ fourth ∷ []) (0 * 256 + first % 256)
    ∙ fold-bits_of third (fourth ∷ []) ((0 * 256 + first % 256) * 256 + second % 256)
    ∙ fold-bits_of fourth [] (((0 * 256 + first % 256) * 256 + second % 256) * 256 + third % 256)
    ∙ none_left ((((0 * 256 + first % 256) * 256 + second % 256) * 256 + third % 256) * 256 + fourth % 256)
    ∙ (let sum : (((0 * 256 + first % 256) * 256 + second % 256) * 256 + third % 256) * 256 + fourth % 256 ≡ word % 2 ^ 32 = omega arith in sum) in
    sym (bits-number_of (bits_of (word_bytes word)) 32 (length-bits_of (word_bytes word)) (bits-bits_of (word_bytes word)))
    ∙ ap (bits 32) value ∙ bits-mod 32 word

-- the division of a message's bits and the bits of its EDC leaves zeros
pub edc_leaves_zero : (message : List ℕ) → remainder (8 * length message) (bits_of (message ++ edc_of message)) ≡ replicate 32 0
unfolding edc_of
edc_leaves_zero message =
    let n : ℕ = 8 * length message in
    let prefix : List ℕ = bits_of message in
    let whole : List ℕ = prefix ++ replicate 32 0 in
    let rest : List ℕ = remainder n whole in
    let prefix_size : length prefix ≡ n = length-bits_of message in
    let long : n ≤ length whole = omega (arith, length-append prefix (replicate 32 0), prefix_size) in
    let size : length rest ≡ 32 = omega (arith, length-remainder n whole long, length-append prefix (replicate 32 0), length-replicate {A = ℕ} 32 0, prefix_size) in
    let each : All IsBit rest = bits-remainder n whole (All-append IsBit prefix (replicate 32 0) (bits-bits_of message) (All-replicate IsBit 32 0 (omega arith))) in
    let check : bits_of (edc_of message) ≡ rest = bits_of-word_bytes (number_of rest) ∙ bits-number_of rest 32 size each in
    ap (remainder n) (bits_of-append message (edc_of message) ∙ ap (λ (l : List ℕ). prefix ++ l) check ∙ sym (plus_behind prefix rest))
    ∙ ap (λ (k : ℕ). remainder n (plus_prefix (prefix ++ replicate k 0) (replicate (length prefix) 0 ++ rest))) size
    ∙ ap (λ (k : ℕ). remainder n (plus_prefix whole (replicate k 0 ++ rest))) prefix_size
    ∙ remainder_behind n whole rest long
    ∙ plus_prefix_self rest ∙ ap (λ (k : ℕ). replicate k 0) size
