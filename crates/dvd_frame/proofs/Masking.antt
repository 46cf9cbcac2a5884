-- Main Data combined with the scrambling bytes.
use Rattle.std.proofs.Common.{◌≡◌, ℕ, ◌+◌, ◌-◌, ◌<◌, ◌≤◌, inl, inr, List, ◌++◌, length, get_or, take, drop, sym, ◌∙◌, ap, zero-add, arith}
use Rattle.std.specs.Prelude.{bit_xor}
use Rattle.std.specs.Int.Bits.{xor_zero_r, xor_assoc, xor_self}
use Rattle.std.proofs.lemmas.List.{get_or-drop, get_or-take, get_or_append_left, get_or-append_right, length-append, length-drop}
use Rattle.std.proofs.lemmas.List.FromFn.{length-map-range_with_len, get_or-map-range_with_len}
use Rattle.std.proofs.lemmas.Grind.{same_number_lists}
use Rattle.std.proofs.lemmas.Bool.{cases_lt}
use Rattle.std.proofs.lemmas.Bool.Decides.{nat_tests}
use Rattle.dvd_frame.specs.Scrambling.{mask, masked, scrambled_count, scrambling_byte, preset_of}
use Rattle.dvd_frame.specs.declared.scrambling.Rule.{Rule}

-- masked Main Data are as long as before
pub length-masked : (word : ℕ) (rule : Rule) (main : List ℕ) → length (masked word rule main) ≡ length main
unfolding masked
length-masked word rule main = length-map-range_with_len (λ (k : ℕ). bit_xor (get_or main k 0) (mask word rule k)) 0 (length main)

-- one masked byte
pub get_or-masked : (word : ℕ) (rule : Rule) (main : List ℕ) (i : ℕ) → i < length main
    → get_or (masked word rule main) i 0 ≡ bit_xor (get_or main i 0) (mask word rule i)
unfolding masked
get_or-masked word rule main i below =
    get_or-map-range_with_len (λ (k : ℕ). bit_xor (get_or main k 0) (mask word rule k)) 0 (length main) i i 0 below (zero-add i)

-- a byte that is scrambled is combined with its scrambling byte
mask_within : (word : ℕ) (rule : Rule) (k : ℕ) → k < scrambled_count rule → mask word rule k ≡ scrambling_byte (preset_of word) k
unfolding mask
mask_within word rule k within = grind (arith, nat_tests)

-- a byte past those that are scrambled is combined with 0
mask_past : (word : ℕ) (rule : Rule) (k : ℕ) → scrambled_count rule ≤ k → mask word rule k ≡ 0
unfolding mask
mask_past word rule k past = grind (arith, nat_tests)

-- masked twice, Main Data are as they were
pub masked_twice : (word : ℕ) (rule : Rule) (main : List ℕ) → masked word rule (masked word rule main) ≡ main
masked_twice word rule main =
    let once : List ℕ = masked word rule main in
    let size : length once ≡ length main = length-masked word rule main in
    same_number_lists (masked word rule once) main (length-masked word rule once ∙ size)
    (λ k below. each k (omega (arith, length-masked word rule once, size)))
  where
    each : (k : ℕ) → k < length main → get_or (masked word rule (masked word rule main)) k 0 ≡ get_or main k 0
    each k below =
        let byte : ℕ = get_or main k 0 in
        let m : ℕ = mask word rule k in
        get_or-masked word rule (masked word rule main) k (omega (arith, length-masked word rule main))
        ∙ ap (λ (b : ℕ). bit_xor b m) (get_or-masked word rule main k below) ∙ xor_assoc byte m m ∙ ap (bit_xor byte) (xor_self m) ∙ xor_zero_r byte

-- the first bytes combined with the sequence, and the others as they were
pub masked_parts : (word : ℕ) (rule : Rule) (main prefix : List ℕ) (count : ℕ) → count ≡ scrambled_count rule → count ≤ length main → length prefix ≡ count
    → ((k : ℕ) → k < count → get_or prefix k 0 ≡ bit_xor (get_or (take count main) k 0) (scrambling_byte (preset_of word) k))
    → prefix ++ drop count main ≡ masked word rule main
masked_parts word rule main prefix count is within size combined =
    same_number_lists (prefix ++ drop count main) (masked word rule main)
    (omega (arith, length-append prefix (drop count main), length-drop count main, length-masked word rule main))
    (λ k below. each k (omega (arith, length-append prefix (drop count main), length-drop count main)))
  where
    each : (k : ℕ) → k < length main → get_or (prefix ++ drop count main) k 0 ≡ get_or (masked word rule main) k 0
    each k below = elim (cases_lt k count) [
      | inl inside ↦ get_or_append_left prefix (drop count main) 0 k (omega arith) ∙ combined k inside
          ∙ ap (λ (b : ℕ). bit_xor b (scrambling_byte (preset_of word) k)) (get_or-take count main k 0 inside)
          ∙ sym (get_or-masked word rule main k below ∙ ap (bit_xor (get_or main k 0)) (mask_within word rule k (omega arith)))
      | inr past ↦
          let place : count + (k - count) ≡ k = omega arith in
          get_or-append_right prefix (drop count main) count k 0 size past
          ∙ get_or-drop count main (k - count) 0 ∙ ap (λ (x : ℕ). get_or main x 0) place
          ∙ sym (get_or-masked word rule main k below ∙ ap (bit_xor (get_or main k 0)) (mask_past word rule k (omega arith)) ∙ xor_zero_r (get_or main k 0))
    ]
