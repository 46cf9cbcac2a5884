-- When the bits of a row of marks mark no place: its first 22 bytes are zeros, and the last has nothing but the two
-- spare bits.
use Rattle.std.proofs.Common.{◌≡◌, ◌≢◌, ◌⊎◌, ◌∙◌, ℕ, ◌+◌, ◌*◌, ◌-◌, ◌/◌, ◌%◌, ◌<◌, ◌≤◌, ◌==◌, true, false, List, length, replicate, take, get_or, inl, inr, sym, ap, subst, arith}
use Rattle.std.specs.Int.{bit_at}
use Rattle.std.proofs.lemmas.Grind.{same_number_lists}
use Rattle.std.proofs.lemmas.List.{get_or-replicate, get_or-take, length-replicate, length-take}
use Rattle.std.proofs.lemmas.Nat.Bits.{bit_at-zero, bit_at_above}
use Rattle.dvd_capture.specs.MarkBits.{mark_at, marks_of}
use Rattle.dvd_capture.proofs.MarkLists.{all_marks, mark-marks_of}

-- a bit that is no 1
no_one : (n : ℕ) → (n == 1) ≡ false → n ≢ 1
no_one n not is = let no : false ≡ true = sym not ∙ ap (λ m. m == 1) is in cc

-- a byte none of whose eight bits is set, and one with none but the last two
zero_byte : (byte : ℕ) → byte < 256 → ((k : ℕ) → k < 8 → bit_at byte (7 - k) ≢ 1) → byte ≡ 0
zero_byte byte fits none =
    omega (arith, fits, none 0 (omega arith), none 1 (omega arith), none 2 (omega arith), none 3 (omega arith), none 4 (omega arith), none 5 (omega arith), none 6 (omega arith), none 7 (omega arith))

-- with none but the last two bits set, it is less than 4
spare_byte : (byte : ℕ) → byte < 256 → ((k : ℕ) → k < 6 → bit_at byte (7 - k) ≢ 1) → byte < 4
spare_byte byte fits none =
    omega (arith, fits, none 0 (omega arith), none 1 (omega arith), none 2 (omega arith), none 3 (omega arith), none 4 (omega arith), none 5 (omega arith))

module _ (row : List ℕ) (size : length row ≡ 23) where
  -- no place is marked where the bytes are so
  pub clear_marks : take 22 row ≡ replicate 22 0 → get_or row 22 0 < 4 → marks_of row ≡ replicate 182 false
  clear_marks zeros spare =
      sym (all_marks row (replicate 182 false) (length-replicate 182 false) (λ j inside. get_or-replicate 182 j false false inside ∙ sym (none j inside))) where
        bit_zero : (j : ℕ) → j < 182 → bit_at (get_or row (j / 8) 0) (7 - j % 8) ≡ 0
        bit_zero j inside = by_byte (dec j) where
          dec : (j : ℕ) → (j / 8 < 22) ⊎ (22 ≤ j / 8)
          dec j = grind arith

          by_byte : (j / 8 < 22) ⊎ (22 ≤ j / 8) → bit_at (get_or row (j / 8) 0) (7 - j % 8) ≡ 0
          by_byte (inl before) =
              ap (λ b. bit_at b (7 - j % 8)) (sym (get_or-take 22 row (j / 8) 0 before) ∙ ap (λ l. get_or l (j / 8) 0) zeros ∙ get_or-replicate 22 (j / 8) 0 0 before)
              ∙ bit_at-zero (7 - j % 8)
          by_byte (inr last) =
              let is : j / 8 ≡ 22 = omega (arith, inside, last) in
              bit_at_above (get_or row (j / 8) 0) 2 (7 - j % 8) (subst (λ q. get_or row q 0 < 4) (sym is) spare) (omega (arith, inside, last))

        none : (j : ℕ) → j < 182 → mark_at row j ≡ false
        none j inside = ap (λ n. n == 1) (bit_zero j inside)

  module _ (fits : (i : ℕ) → get_or row i 0 < 256) (clear : marks_of row ≡ replicate 182 false) where
    -- no bit of a place is set, as bit k of byte q marks place 8 q + k of the row
    unset : (q k : ℕ) → 8 * q + k < 182 → k < 8 → bit_at (get_or row q 0) (7 - k) ≢ 1
    unset q k inside low =
        let j : ℕ = 8 * q + k in
        let at : mark_at row j ≡ false = sym (mark-marks_of row j inside) ∙ ap (λ l. get_or l j false) clear ∙ get_or-replicate 182 j false false inside in
        let byte : j / 8 ≡ q = omega (arith, low) in
        let bit : j % 8 ≡ k = omega (arith, low) in
        no_one (bit_at (get_or row q 0) (7 - k)) (subst (λ m. (bit_at (get_or row q 0) (7 - m) == 1) ≡ false) bit (subst (λ p. (bit_at (get_or row p 0) (7 - j % 8) == 1) ≡ false) byte at))

    -- and the bytes are so where no place is marked
    pub clear_prefix : take 22 row ≡ replicate 22 0
    clear_prefix =
        let width : length (take 22 row) ≡ 22 = omega (arith, length-take 22 row, size) in
        let zeros : List ℕ = replicate 22 0 in
        same_number_lists (take 22 row) zeros width (λ q within.
        let inside : q < 22 = subst (λ n. q < n) width within in
        get_or-take 22 row q 0 inside
        ∙ zero_byte (get_or row q 0) (fits q) (λ k low. unset q k (omega (arith, inside, low)) low)
        ∙ sym (get_or-replicate 22 q 0 0 inside))

    -- and the last byte has nothing but the two spare bits
    pub clear_last : get_or row 22 0 < 4
    clear_last = spare_byte (get_or row 22 0) (fits 22) (λ k low. unset 22 k (omega (arith, low)) (omega (arith, low)))
