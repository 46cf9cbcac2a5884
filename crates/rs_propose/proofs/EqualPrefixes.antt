-- Ten bytes that are compared as two vectors of eight: the first eight, and the last eight.
use Rattle.std.proofs.Common.{◌≡◌, ℕ, ◌+◌, ◌-◌, ◌<◌, ◌≤◌, inl, inr, List, ◌++◌, length, get_or, get_or-take, take, length-take-le, sym, ap, ◌∙◌, arith, bit_or, bit_xor}
use Rattle.std.specs.List.{range_with_len}
use Rattle.std.specs.Simd.Lanes.{chunk, fold_l, pick_l, zip2}
use Rattle.std.proofs.lemmas.Bool.{cases_lt}
use Rattle.std.proofs.lemmas.Grind.{same_number_lists}
use Rattle.std.proofs.lemmas.Simd.{get_or-chunk, length-chunk, pick_l-range_with_len, pick_l_left}
use Rattle.gf_field.proofs.FieldLaws.{plus-zero_same}
use Rattle.rs_lanes.proofs.LaneLemmas.{HoldsLanes-zip2, either-zero, joined-zero}
use Rattle.rs_lanes.specs.Inner.Lanes.{HoldsLanes}

-- how eight lanes from a place on differ from the bytes there
abbrev pub unlike_from : ℕ → List ℕ → List ℕ → List ℕ
unlike_from at sums bytes = zip2 bit_xor (pick_l 0 (sums ++ sums) (range_with_len at 8)) (chunk at 8 bytes)

-- lane by lane
pub unlike_lanes : (at : ℕ) (sums bytes : List ℕ) → at + 8 ≤ length sums → at + 8 ≤ length bytes
    → pick_l 0 (sums ++ sums) (range_with_len at 8) ≡ pick_l 0 sums (range_with_len at 8)
    → HoldsLanes 8 (unlike_from at sums bytes) (λ k. bit_xor (get_or sums (at + k) 0) (get_or bytes (at + k) 0))
unlike_lanes at sums bytes long_s long_b once =
    let eight = once ∙ pick_l-range_with_len 0 sums at 8 long_s in
    let both = HoldsLanes-zip2 8 bit_xor (pick_l 0 (sums ++ sums) (range_with_len at 8)) (chunk at 8 bytes) (ap length eight ∙ length-chunk at 8 sums long_s) (length-chunk at 8 bytes long_b) in
    record {
      size = both.size;
      each = λ k below.
          both.each k below
          ∙ ap (λ one. bit_xor one (get_or (chunk at 8 bytes) k 0)) (ap (λ xs. get_or xs k 0) eight ∙ get_or-chunk at 8 sums k 0 below)
          ∙ ap (bit_xor (get_or sums (at + k) 0)) (get_or-chunk at 8 bytes k 0 below);
    }

-- where one of the lanes is zero, the two bytes there are the same
pub same_byte : (at i : ℕ) (sums bytes : List ℕ) → HoldsLanes 8 (unlike_from at sums bytes) (λ k. bit_xor (get_or sums (at + k) 0) (get_or bytes (at + k) 0))
    → at ≤ i → i < at + 8 → get_or (unlike_from at sums bytes) (i - at) 0 ≡ 0 → get_or sums i 0 ≡ get_or bytes i 0
same_byte at i sums bytes are above below none =
    let here : at + (i - at) ≡ i = omega arith in
    ap (λ n. get_or sums n 0) (sym here)
    ∙ plus-zero_same (get_or sums (at + (i - at)) 0) (get_or bytes (at + (i - at)) 0) (sym (are.each (i - at) (omega arith)) ∙ none)
    ∙ ap (λ n. get_or bytes n 0) here

-- where neither eight differ, the first ten are the same
pub same_prefix : (sums bytes : List ℕ) → length sums ≡ 16 → length bytes ≡ 10
    → fold_l bit_or 0 (zip2 bit_or (unlike_from 0 sums bytes) (unlike_from 2 sums bytes)) ≡ 0
    → take 10 sums ≡ bytes
same_prefix sums bytes size_s size_b none =
    let first = unlike_lanes 0 sums bytes (omega (arith, size_s)) (omega (arith, size_b)) (pick_l_left 0 sums sums 16 (range_with_len 0 8) size_s tt) in
    let last = unlike_lanes 2 sums bytes (omega (arith, size_s)) (omega (arith, size_b)) (pick_l_left 0 sums sums 16 (range_with_len 2 8) size_s tt) in
    let both = HoldsLanes-zip2 8 bit_or (unlike_from 0 sums bytes) (unlike_from 2 sums bytes) first.size last.size in
    let zeros = ((joined-zero 0 (zip2 bit_or (unlike_from 0 sums bytes) (unlike_from 2 sums bytes))).0 none).1 in
    let parts = λ (k : ℕ) (below : k < 8).
    (either-zero (get_or (unlike_from 0 sums bytes) k 0) (get_or (unlike_from 2 sums bytes) k 0)).0 (sym (both.each k below) ∙ zeros k (omega (arith, both.size, below))) in
    let ten = length-take-le 10 sums (omega (arith, size_s)) in
    same_number_lists (take 10 sums) bytes (ten ∙ sym size_b)
    (λ i inside.
    get_or-take 10 sums i 0 (omega (arith, inside, ten))
    ∙ elim (cases_lt i 8) [
      | inl below ↦ same_byte 0 i sums bytes first (omega arith) (omega (arith, below)) (parts (i - 0) (omega (arith, below))).0
      | inr beyond ↦
          same_byte 2 i sums bytes last (omega (arith, beyond)) (omega (arith, inside, ten)) (parts (i - 2) (omega (arith, inside, ten, beyond))).1
    ])
