-- The recurrence of the scrambling bits, and what follows of it for bits and bytes that are further apart.
use Rattle.std.proofs.Common.{◌≡◌, ℕ, zero, suc, ◌+◌, ◌-◌, ◌*◌, ◌<◌, List, [], ◌∷◌, length, get_or, map, drop, All, mod-eq_of_lt, refl, sym, ◌∙◌, ap, arith}
use Rattle.std.specs.Prelude.{bit_xor}
use Rattle.std.specs.List.{range_with_len}
use Rattle.std.specs.Int.Bits.{xor_assoc, xor_self, xor_zero_l}
use Rattle.std.proofs.lemmas.List.{get_or_append_left, get_or-append_right, get_or-drop, length-drop}
use Rattle.std.proofs.lemmas.List.Elements.{All-nil, All-cons, All-append, All-drop}
use Rattle.std.proofs.lemmas.List.FromFn.{length-map-range_with_len, get_or-map-range_with_len}
use Rattle.std.proofs.lemmas.Grind.{same_number_lists}
use Rattle.std.proofs.lemmas.Nat.{xor_lt}
use Rattle.coding.specs.BitDivision.{plus_prefix}
use Rattle.coding.specs.Bits.{bits, number_of}
use Rattle.dvd_frame.specs.Scrambling.{sequence, scrambling_byte}
use Rattle.dvd_frame.proofs.BitLists.{plus_prefix-bits, number_of-bits}
use Rattle.dvd_frame.proofs.Multiples.{IsBit, bits-bits, bits-number_of}
use Rattle.dvd_frame.proofs.Sequences.{length-sequence}

-- bit i of a preset's sequence, u(i)
unfoldable bit_of : ℕ → ℕ → ℕ
bit_of preset i = get_or (sequence preset i) i 0

-- a bit stays where it is as the sequence grows
bit_stays : (preset n m i : ℕ) → i < 15 + n → get_or (sequence preset (m + n)) i 0 ≡ get_or (sequence preset n) i 0
unfolding sequence
bit_stays preset n zero i within =
    let none : zero + n ≡ n = omega arith in ap (λ (k : ℕ). get_or (sequence preset k) i 0) none
bit_stays preset n (suc m) i within =
    let u : List ℕ = sequence preset (m + n) in
    let more : suc m + n ≡ suc (m + n) = omega arith in
    ap (λ (k : ℕ). get_or (sequence preset k) i 0) more
    ∙ get_or_append_left u (bit_xor (get_or u (m + n) 0) (get_or u (m + n + 4) 0) ∷ []) 0 i (omega (arith, length-sequence preset (m + n)))
    ∙ bit_stays preset n m i within

-- a bit is the same in each part of the sequence that has it
bit_anywhere : (preset n i : ℕ) → i < 15 + n → get_or (sequence preset n) i 0 ≡ bit_of preset i
unfolding bit_of
bit_anywhere preset n i within =
    let order : i + n ≡ n + i = omega arith in
    sym (bit_stays preset n i i within) ∙ ap (λ (k : ℕ). get_or (sequence preset k) i 0) order ∙ bit_stays preset i n i (omega arith)

-- each term is the sum of the one a places and the one a - b places before it
abbrev pub Recurs : (ℕ → ℕ) → ℕ → ℕ → Type 0
Recurs f a b = (i : ℕ) → f (i + a) ≡ bit_xor (f i) (f (i + b))

-- the standard's rule
bits_recur : (preset : ℕ) → Recurs (bit_of preset) 15 4
unfolding sequence bit_of
bits_recur preset i =
    let u : List ℕ = sequence preset i in
    let sum : ℕ = bit_xor (get_or u i 0) (get_or u (i + 4) 0) in
    let order : i + 15 ≡ 15 + i = omega arith in
    let none : 15 + i - (15 + i) ≡ 0 = omega arith in
    ap (bit_of preset) order
    ∙ sym (bit_anywhere preset (suc i) (15 + i) (omega arith))
    ∙ get_or-append_right u (sum ∷ []) (15 + i) (15 + i) 0 (length-sequence preset i) (omega arith)
    ∙ ap (λ (k : ℕ). get_or (sum ∷ []) k 0) none
    ∙ ap (bit_xor (get_or u i 0)) (bit_anywhere preset i (i + 4) (omega arith))

-- what is added twice falls out
xor_middle : (a b c : ℕ) → bit_xor (bit_xor a b) (bit_xor b c) ≡ bit_xor a c
xor_middle a b c = xor_assoc a b (bit_xor b c) ∙ ap (bit_xor a) (sym (xor_assoc b b c) ∙ ap (λ (x : ℕ). bit_xor x c) (xor_self b) ∙ xor_zero_l c)

-- the same holds of the doubled distances
recurs_doubled : (f : ℕ → ℕ) (a b : ℕ) → Recurs f a b → Recurs f (2 * a) (2 * b)
recurs_doubled f a b recurs i =
    let far : i + 2 * a ≡ i + a + a = omega arith in
    let between : i + a + b ≡ i + b + a = omega arith in
    let near : i + b + b ≡ i + 2 * b = omega arith in
    ap f far ∙ recurs (i + a) ∙ ap (λ (x : ℕ). bit_xor x (f (i + a + b))) (recurs i)
    ∙ ap (bit_xor (bit_xor (f i) (f (i + b)))) (ap f between ∙ recurs (i + b))
    ∙ xor_middle (f i) (f (i + b)) (f (i + b + b)) ∙ ap (λ (k : ℕ). bit_xor (f i) (f k)) near

-- and of distances eight times as long
recurs_eightfold : (f : ℕ → ℕ) (a b : ℕ) → Recurs f a b → Recurs f (2 * (2 * (2 * a))) (2 * (2 * (2 * b)))
recurs_eightfold f a b recurs = recurs_doubled f (2 * (2 * a)) (2 * (2 * b)) (recurs_doubled f (2 * a) (2 * b) (recurs_doubled f a b recurs))

-- so the standard's rule holds of bits 120 and 32 places apart
bits_recur_by_bytes : (preset : ℕ) → Recurs (bit_of preset) 120 32
bits_recur_by_bytes preset = recurs_eightfold (bit_of preset) 15 4 (bits_recur preset)

-- n terms from place j on
unfoldable pub terms : (ℕ → ℕ) → ℕ → ℕ → List ℕ
terms f j n = map f (range_with_len j n)

-- n terms are n numbers
pub length-terms : (f : ℕ → ℕ) (j n : ℕ) → length (terms f j n) ≡ n
unfolding terms
length-terms f j n = length-map-range_with_len f j n

-- term i from place j on is the one at place j + i
pub get_or-terms : (f : ℕ → ℕ) (j n i : ℕ) → i < n → get_or (terms f j n) i 0 ≡ f (j + i)
unfolding terms
get_or-terms f j n i below = get_or-map-range_with_len f j n i (j + i) 0 below refl

-- terms far enough on are sums of others
pub terms_sum : (f : ℕ → ℕ) (a b j n : ℕ) → Recurs f a b → terms f (j + a) n ≡ plus_prefix (terms f j n) (terms f (j + b) n)
unfolding terms plus_prefix
terms_sum f a b j zero recurs = refl
terms_sum f a b j (suc n) recurs =
    let far : j + a + 1 ≡ j + 1 + a = omega arith in
    let near : j + 1 + b ≡ j + b + 1 = omega arith in
    ap (λ (x : ℕ). x ∷ terms f (j + a + 1) n) (recurs j)
    ∙ ap (λ (l : List ℕ). bit_xor (f j) (f (j + b)) ∷ l)
    (ap (λ (k : ℕ). terms f k n) far ∙ terms_sum f a b (j + 1) n recurs ∙ ap (λ (k : ℕ). plus_prefix (terms f (j + 1) n) (terms f k n)) near)

-- the end of the sequence
sequence_end : (preset m j n : ℕ) → j + n ≡ 15 + m → drop j (sequence preset m) ≡ terms (bit_of preset) j n
sequence_end preset m j n is =
    let size : length (drop j (sequence preset m)) ≡ n = omega (arith, length-drop j (sequence preset m), length-sequence preset m) in
    same_number_lists (drop j (sequence preset m)) (terms (bit_of preset) j n) (size ∙ sym (length-terms (bit_of preset) j n))
    (λ i below. get_or-drop j (sequence preset m) i 0 ∙ bit_anywhere preset m (j + i) (omega arith) ∙ sym (get_or-terms (bit_of preset) j n i (omega arith)))

-- the sequence is one of bits
bits-sequence : (preset n : ℕ) → All IsBit (sequence preset n)
unfolding sequence
bits-sequence preset zero = bits-bits 15 preset
bits-sequence preset (suc n) =
    let u : List ℕ = sequence preset n in
    let each : All IsBit u = bits-sequence preset n in
    let sum : ℕ = bit_xor (get_or u n 0) (get_or u (n + 4) 0) in
    let bit : sum < 2 = xor_lt 1 (get_or u n 0) (get_or u (n + 4) 0)
    (each n 0 (omega (arith, length-sequence preset n))) (each (n + 4) 0 (omega (arith, length-sequence preset n))) in
    All-append IsBit u (sum ∷ []) each (All-cons IsBit sum [] bit (All-nil IsBit))

-- the eight bits of a scrambling byte
byte_bits : (preset k : ℕ) → bits 8 (scrambling_byte preset k) ≡ terms (bit_of preset) (8 * k + 7) 8
unfolding scrambling_byte
byte_bits preset k =
    let shown : List ℕ = drop (8 * k + 7) (sequence preset (8 * k)) in
    let size : length shown ≡ 8 = omega (arith, length-drop (8 * k + 7) (sequence preset (8 * k)), length-sequence preset (8 * k)) in
    bits-number_of shown 8 size (All-drop IsBit (8 * k + 7) (sequence preset (8 * k)) (bits-sequence preset (8 * k)))
    ∙ sequence_end preset (8 * k) (8 * k + 7) 8 (omega arith)

-- these eight bits are those of the scrambling byte
byte_value : (preset k : ℕ) → number_of (terms (bit_of preset) (8 * k + 7) 8) ≡ scrambling_byte preset k
unfolding scrambling_byte
byte_value preset k = ap number_of (sym (sequence_end preset (8 * k) (8 * k + 7) 8 (omega arith)))

-- a scrambling byte is a byte
pub byte_fits : (preset k : ℕ) → scrambling_byte preset k < 256
byte_fits preset k =
    omega (arith, sym (byte_value preset k) ∙ ap number_of (sym (byte_bits preset k)) ∙ number_of-bits 8 (scrambling_byte preset k))

-- so bytes have the same recurrence as bits: 120 bits are fifteen bytes, and 32 are four
pub bytes_recur : (preset : ℕ) → Recurs (scrambling_byte preset) 15 4
bytes_recur preset k =
    let f : ℕ → ℕ = bit_of preset in
    let a : ℕ = scrambling_byte preset k in
    let b : ℕ = scrambling_byte preset (k + 4) in
    let far : 8 * (k + 15) + 7 ≡ 8 * k + 7 + 120 = omega arith in
    let near : 8 * k + 7 + 32 ≡ 8 * (k + 4) + 7 = omega arith in
    let fits : bit_xor a b < 256 = xor_lt 8 a b (byte_fits preset k) (byte_fits preset (k + 4)) in
    sym (byte_value preset (k + 15))
    ∙ ap (λ (j : ℕ). number_of (terms f j 8)) far
    ∙ ap number_of (terms_sum f 120 32 (8 * k + 7) 8 (bits_recur_by_bytes preset)
    ∙ ap (λ (j : ℕ). plus_prefix (terms f (8 * k + 7) 8) (terms f j 8)) near
    ∙ ap (λ (l : List ℕ). plus_prefix l (terms f (8 * (k + 4) + 7) 8)) (sym (byte_bits preset k))
    ∙ ap (plus_prefix (bits 8 a)) (sym (byte_bits preset (k + 4)))
    ∙ plus_prefix-bits 8 a b)
    ∙ number_of-bits 8 (bit_xor a b) ∙ mod-eq_of_lt fits

-- and bytes, like bits, at distances sixteen times as long
pub bytes_recur_by_vectors : (preset : ℕ) → Recurs (scrambling_byte preset) 240 64
bytes_recur_by_vectors preset = recurs_doubled (scrambling_byte preset) 120 32 (recurs_eightfold (scrambling_byte preset) 15 4 (bytes_recur preset))
