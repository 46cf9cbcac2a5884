-- Words of eight scrambling bytes, and vectors of 32.
use Rattle.std.proofs.Common.{◌≡◌, ℕ, zero, suc, ◌+◌, ◌-◌, ◌*◌, ◌/◌, ◌%◌, ◌^◌, ◌<◌, ◌≤◌, List, [], ◌∷◌, ◌++◌, length, get_or, take, drop, refl, sym, ◌∙◌, ap, ap₂, zero-add, arith}
use Rattle.std.specs.Prelude.{bit_xor, replicate}
use Rattle.std.specs.Int.{from_be_bytes, to_be_bytes, w64}
use Rattle.std.specs.Int.Bits.{xor_shr, xor_mod}
use Rattle.std.proofs.lemmas.Nat.{be_bytes_8}
use Rattle.std.proofs.lemmas.List.{get_or-drop, get_or-take, length-drop, length-take-le, take_all, take-take, drop-take}
use Rattle.std.proofs.lemmas.Grind.{same_number_lists}
use Rattle.coding.specs.BitDivision.{plus_prefix}
use Rattle.dvd_frame.specs.Inner.Registers.{keys_from}
use Rattle.coding.specs.Bits.{bits}
use Rattle.dvd_frame.specs.Scrambling.{scrambling_byte, sequence, window}
use Rattle.dvd_frame.proofs.Sequences.{shifted_window, byte_shown}
use Rattle.dvd_frame.proofs.Recurrence.{Recurs, terms, length-terms, get_or-terms, terms_sum, byte_fits, bytes_recur, bytes_recur_by_vectors}

-- n keys are n bytes
pub length-keys : (preset k n : ℕ) → length (keys_from preset k n) ≡ n
unfolding keys_from terms
length-keys preset k n = length-terms (scrambling_byte preset) k n

-- keys are sums of others, at the distances of any rule that scrambling bytes follow
keys_sum : (preset a b k n : ℕ) → Recurs (scrambling_byte preset) a b → keys_from preset (k + a) n ≡ plus_prefix (keys_from preset k n) (keys_from preset (k + b) n)
unfolding keys_from terms
keys_sum preset a b k n recurs = terms_sum (scrambling_byte preset) a b k n recurs

-- keys that go on where others end
keys_append : (preset k m n : ℕ) → keys_from preset k m ++ keys_from preset (k + m) n ≡ keys_from preset k (m + n)
unfolding keys_from
keys_append preset k zero n =
    let none : zero + n ≡ n = omega arith in
    let here : k + zero ≡ k = omega arith in
    ap (λ (j : ℕ). keys_from preset j n) here ∙ ap (keys_from preset k) (sym none)
keys_append preset k (suc m) n =
    let more : suc m + n ≡ suc (m + n) = omega arith in
    let place : k + suc m ≡ k + 1 + m = omega arith in
    ap (λ (l : List ℕ). scrambling_byte preset k ∷ l) (ap (λ (j : ℕ). keys_from preset (k + 1) m ++ keys_from preset j n) place ∙ keys_append preset (k + 1) m n)
    ∙ ap (keys_from preset k) (sym more)

-- of m keys n, from any on
keys_part : (preset k m a n : ℕ) → a + n ≤ m → take n (drop a (keys_from preset k m)) ≡ keys_from preset (k + a) n
unfolding keys_from terms
keys_part preset k m a n within =
    let f : ℕ → ℕ = scrambling_byte preset in
    let all : List ℕ = terms f k m in
    let size : length (drop a all) + a ≡ m = omega (arith, length-drop a all, length-terms f k m) in
    let part : length (take n (drop a all)) ≡ n = length-take-le n (drop a all) (omega arith) in
    same_number_lists (take n (drop a all)) (terms f (k + a) n) (part ∙ sym (length-terms f (k + a) n))
    (λ i below.
    let place : k + (a + i) ≡ k + a + i = omega arith in
    get_or-take n (drop a all) i 0 (omega arith) ∙ get_or-drop a all i 0 ∙ get_or-terms f k m (a + i) (omega arith)
    ∙ ap f place ∙ sym (get_or-terms f (k + a) n i (omega arith)))

-- a byte inside a sum of words is the sum of their bytes there
byte_sum : (j a b p q : ℕ) → a / 2 ^ j % 2 ^ 8 ≡ p → b / 2 ^ j % 2 ^ 8 ≡ q → bit_xor a b / 2 ^ j % 2 ^ 8 ≡ bit_xor p q
byte_sum j a b p q is_p is_q =
    ap (λ (x : ℕ). x % 2 ^ 8) (xor_shr a b j) ∙ xor_mod (a / 2 ^ j) (b / 2 ^ j) 8 ∙ ap₂ bit_xor is_p is_q

-- the sum of the bytes of two words from the second and from the sixth on
bytes_summed : (word next near far : ℕ) → word < 2 ^ 64 → next < 2 ^ 64
    → near ≡ (word * 2 ^ 64 + next) * 2 ^ 8 % 2 ^ 128 / 2 ^ 64 → far ≡ (word * 2 ^ 64 + next) * 2 ^ 40 % 2 ^ 128 / 2 ^ 64
    → to_be_bytes w64 (bit_xor near far)
    ≡ plus_prefix (take 8 (drop 1 (to_be_bytes w64 word ++ to_be_bytes w64 next))) (take 8 (drop 5 (to_be_bytes w64 word ++ to_be_bytes w64 next)))
unfolding plus_prefix
bytes_summed word next near far fits_word fits_next is_near is_far =
    ap₂ ◌∷◌ (byte_sum 56 near far (word / 2 ^ 48 % 256) (word / 2 ^ 16 % 256) (omega arith) (omega arith))
    (ap₂ ◌∷◌ (byte_sum 48 near far (word / 2 ^ 40 % 256) (word / 2 ^ 8 % 256) (omega arith) (omega arith))
    (ap₂ ◌∷◌ (byte_sum 40 near far (word / 2 ^ 32 % 256) (word % 256) (omega arith) (omega arith))
    (ap₂ ◌∷◌ (byte_sum 32 near far (word / 2 ^ 24 % 256) (next / 2 ^ 56 % 256) (omega arith) (omega arith))
    (ap₂ ◌∷◌ (byte_sum 24 near far (word / 2 ^ 16 % 256) (next / 2 ^ 48 % 256) (omega arith) (omega arith))
    (ap₂ ◌∷◌ (byte_sum 16 near far (word / 2 ^ 8 % 256) (next / 2 ^ 40 % 256) (omega arith) (omega arith))
    (ap₂ ◌∷◌ (byte_sum 8 near far (word % 256) (next / 2 ^ 32 % 256) (omega arith) (omega arith))
    (ap (λ (b : ℕ). b ∷ []) last)))))))
  where
    last : bit_xor near far % 2 ^ 8 ≡ bit_xor (next / 2 ^ 56 % 256) (next / 2 ^ 24 % 256)
    last =
        let of_near : near % 2 ^ 8 ≡ next / 2 ^ 56 % 256 = omega arith in
        let of_far : far % 2 ^ 8 ≡ next / 2 ^ 24 % 256 = omega arith in
        xor_mod near far 8 ∙ ap₂ bit_xor of_near of_far

-- the word after two words of keys
pub word_follows : (preset k word next near far : ℕ) → word < 2 ^ 64 → next < 2 ^ 64
    → near ≡ (word * 2 ^ 64 + next) * 2 ^ 8 % 2 ^ 128 / 2 ^ 64 → far ≡ (word * 2 ^ 64 + next) * 2 ^ 40 % 2 ^ 128 / 2 ^ 64
    → to_be_bytes w64 word ≡ keys_from preset k 8 → to_be_bytes w64 next ≡ keys_from preset (k + 8) 8
    → to_be_bytes w64 (bit_xor near far) ≡ keys_from preset (k + 16) 8
word_follows preset k word next near far fits_word fits_next is_near is_far is_word is_next =
    let far_on : k + 16 ≡ k + 1 + 15 = omega arith in
    let near_on : k + 1 + 4 ≡ k + 5 = omega arith in
    bytes_summed word next near far fits_word fits_next is_near is_far
    ∙ ap₂ (λ (a b : List ℕ). plus_prefix (take 8 (drop 1 (a ++ b))) (take 8 (drop 5 (a ++ b)))) is_word is_next
    ∙ ap (λ (l : List ℕ). plus_prefix (take 8 (drop 1 l)) (take 8 (drop 5 l))) (keys_append preset k 8 8)
    ∙ ap₂ plus_prefix (keys_part preset k 16 1 8 (omega arith)) (keys_part preset k 16 5 8 (omega arith))
    ∙ ap (λ (j : ℕ). plus_prefix (keys_from preset (k + 1) 8) (keys_from preset j 8)) (sym near_on)
    ∙ sym (keys_sum preset 15 4 (k + 1) 8 (bytes_recur preset)) ∙ ap (λ (j : ℕ). keys_from preset j 8) (sym far_on)

-- a list of eight that has the keys
keys_read : (preset k : ℕ) (bytes : List ℕ) → length bytes ≡ 8
    → ((j : ℕ) → j < 8 → get_or bytes j 0 ≡ scrambling_byte preset (k + j)) → bytes ≡ keys_from preset k 8
unfolding keys_from terms
keys_read preset k bytes size each =
    same_number_lists bytes (terms (scrambling_byte preset) k 8) (size ∙ sym (length-terms (scrambling_byte preset) k 8))
    (λ j below. each j (omega arith) ∙ sym (get_or-terms (scrambling_byte preset) k 8 j (omega arith)))

-- a key is a byte
key_fits : (preset k n i : ℕ) → get_or (keys_from preset k n) i 0 < 256
unfolding keys_from
key_fits preset k zero i = omega arith
key_fits preset k (suc n) zero = byte_fits preset k
key_fits preset k (suc n) (suc i) = key_fits preset (k + 1) n i

-- the word of eight keys
pub keys_joined : (preset k word : ℕ) (bytes : List ℕ) → length bytes ≡ 8
    → ((j : ℕ) → j < 8 → get_or bytes j 0 ≡ scrambling_byte preset (k + j)) → word ≡ from_be_bytes w64 bytes → to_be_bytes w64 word ≡ keys_from preset k 8
keys_joined preset k word bytes size each is =
    let same : bytes ≡ keys_from preset k 8 = keys_read preset k bytes size each in
    be_bytes_8 (keys_from preset k 8) word (sym (ap length same) ∙ size) (key_fits preset k 8) (is ∙ ap (from_be_bytes w64) same)

-- n keys written after those that are there
pub keys_written : (preset place n : ℕ) (old new part : List ℕ) → take (place + length part) new ≡ take place old ++ part
    → take place old ≡ keys_from preset 0 place → part ≡ keys_from preset place n → take (place + n) new ≡ keys_from preset 0 (place + n)
keys_written preset place n old new part put was more =
    let size : length part ≡ n = ap length more ∙ length-keys preset place n in
    ap (λ (m : ℕ). take (place + m) new) (sym size) ∙ put ∙ ap₂ ◌++◌ was more
    ∙ ap (λ (k : ℕ). keys_from preset 0 place ++ keys_from preset k n) (sym (zero-add place))
    ∙ keys_append preset 0 place n

-- all the keys, once as many as the list has are made
pub keys_whole : (preset place count : ℕ) (keys : List ℕ) → length keys ≡ count → place ≡ count → take place keys ≡ keys_from preset 0 place → keys ≡ keys_from preset 0 count
keys_whole preset place count keys size all made =
    sym (take_all count keys (omega (arith, size))) ∙ ap (λ (n : ℕ). take n keys) (sym all) ∙ made ∙ ap (keys_from preset 0) all

-- one key of the list
pub key_made : (preset count i : ℕ) (keys : List ℕ) → keys ≡ keys_from preset 0 count → i < count → get_or keys i 0 ≡ scrambling_byte preset i
unfolding keys_from terms
key_made preset count i keys made below =
    ap (λ (l : List ℕ). get_or l i 0) made ∙ get_or-terms (scrambling_byte preset) 0 count i below ∙ ap (scrambling_byte preset) (zero-add i)

-- a register of zeros shows zeros at byte 0
blank_start : bits 15 0 ≡ window 0 0
unfolding window sequence
blank_start = refl

-- and at each byte
blank_window : (k : ℕ) → bits 15 0 ≡ window 0 k
blank_window zero = blank_start
blank_window (suc k) =
    let next : k + 1 ≡ suc k = omega arith in
    shifted_window 0 k 0 0 (omega arith) (blank_window k) ∙ ap (window 0) next

-- its keys are zeros
pub blank_keys : (k n : ℕ) → replicate n 0 ≡ keys_from 0 k n
unfolding keys_from
blank_keys k zero = refl
blank_keys k (suc n) = ap₂ ◌∷◌ (byte_shown 0 k 0 (blank_window k)) (blank_keys (k + 1) n)

-- n of the keys that were made, from any on
keys_within : (preset at a n : ℕ) (keys : List ℕ) → take at keys ≡ keys_from preset 0 at → a + n ≤ at → take n (drop a keys) ≡ keys_from preset a n
keys_within preset at a n keys made within =
    let rest : ℕ = at - a in
    let whole : a + rest ≡ at = omega arith in
    sym (take-take n rest (drop a keys) (omega arith)) ∙ ap (take n) (sym (drop-take a rest keys))
    ∙ ap (λ (m : ℕ). take n (drop a (take m keys))) whole ∙ ap (λ (l : List ℕ). take n (drop a l)) made
    ∙ keys_part preset 0 at a n within ∙ ap (λ (k : ℕ). keys_from preset k n) (zero-add a)

-- the vector after the keys that were made, of two that are among them
pub vector_follows : (preset at far near : ℕ) (keys : List ℕ) → far + 240 ≡ at → near + 176 ≡ at → take at keys ≡ keys_from preset 0 at
    → plus_prefix (take 32 (drop far keys)) (take 32 (drop near keys)) ≡ keys_from preset at 32
vector_follows preset at far near keys is_far is_near made =
    let between : near ≡ far + 64 = omega arith in
    ap₂ plus_prefix (keys_within preset at far 32 keys made (omega arith)) (keys_within preset at near 32 keys made (omega arith))
    ∙ ap (λ (j : ℕ). plus_prefix (keys_from preset far 32) (keys_from preset j 32)) between
    ∙ sym (keys_sum preset 240 64 far 32 (bytes_recur_by_vectors preset)) ∙ ap (λ (j : ℕ). keys_from preset j 32) is_far
