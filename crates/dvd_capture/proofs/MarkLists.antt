-- Marks as bits and as lists.
use Rattle.std.proofs.Common.{◌≡◌, ◌≢◌, ◌⊎◌, ◌∙◌, ℕ, zero, suc, ◌+◌, ◌-◌, ◌*◌, ◌/◌, ◌%◌, ◌<◌, ◌≤◌, ◌==◌, if◌then◌else◌, not, Bool, true, false, List, [], ◌∷◌, length, map, set, replicate, slice_index, get_or, inl, inr, refl, sym, ap, subst, arith}
use Rattle.std.specs.Cmp.{booleans_Decides}
use Rattle.std.specs.Int.{bit_at}
use Rattle.std.proofs.Math.Bool.{beq}
use Rattle.std.proofs.lemmas.Bool.Decides.{eqb_tells, leb_tells}
use Rattle.std.proofs.lemmas.List.{get_or-map, get_or-set_same, get_or-set_other, length-set}
use Rattle.std.proofs.lemmas.Nat.Bits.{bit_at-zero, bit_at_ones}
use Rattle.std.proofs.lemmas.List.FromFn.{length-map-range_with_len, get_or-map-range_with_len}
use Rattle.dvd_capture.specs.Answers.{marks_line}
use Rattle.dvd_capture.specs.Inner.Listing.{IsFound}
use Rattle.dvd_capture.specs.MarkBits.{mark_at, marks_of}
use Rattle.dvd_capture.specs.Parts.{marks_of_row}
use Rattle.dvd_capture.specs.declared.row_marks.RowMarks.{RowMarks}
use Rattle.dvd_capture.proofs.Mapped.{mapped}

-- a row of marks has 182, one for each byte of a row
pub length-marks_of : (bytes : List ℕ) → length (marks_of bytes) ≡ 182
unfolding marks_of
length-marks_of bytes = length-map-range_with_len (mark_at bytes) 0 182

-- mark j of a row of marks
pub mark-marks_of : (bytes : List ℕ) (j : ℕ) → j < 182 → get_or (marks_of bytes) j false ≡ mark_at bytes j
unfolding marks_of
mark-marks_of bytes j below = get_or-map-range_with_len (mark_at bytes) 0 182 j j false below (omega arith)

-- and marks that are known place by place are such a row
pub all_marks : (bytes : List ℕ) (marks : List Bool) → length marks ≡ 182 → ((j : ℕ) → j < 182 → get_or marks j false ≡ mark_at bytes j) → marks ≡ marks_of bytes
unfolding marks_of
all_marks bytes marks size each = mapped (mark_at bytes) marks 182 false size each

-- no bit is no mark
pub zero_marks : marks_of (replicate 23 0) ≡ replicate 182 false
unfolding marks_of
zero_marks = refl

-- and rows of no marks are rows without a mark
pub no_marks : (n : ℕ) (none : RowMarks) → marks_of_row none ≡ replicate 182 false → map marks_of_row (replicate n none) ≡ replicate n (replicate 182 false)
no_marks zero none is = refl
no_marks (suc n) none is = rw is (ap (λ rows. replicate 182 false ∷ rows) (no_marks n none is))

-- PASSING marks: those from a place on and before another are all the other one than what is sought.
abbrev pub ArePassed : List ℕ → Bool → ℕ → ℕ → Type 0
ArePassed bytes mark from to = (place : ℕ) → from ≤ place → place < to → place < 182 → mark_at bytes place ≡ not mark

-- at first none is
pub none-passed : (bytes : List ℕ) (mark : Bool) (from : ℕ) → ArePassed bytes mark from from
none-passed bytes mark from place least below inside = absurd (omega arith)

-- the eight marks of a byte that is 0, or 255, are alike
alike : (bytes : List ℕ) (mark : Bool) (j : ℕ) → slice_index bytes (j / 8) ≡ (if mark then 0 else 255) → mark_at bytes j ≡ not mark
alike bytes true j is = ap (λ b. bit_at b (7 - j % 8) == 1) is ∙ ap (λ b. b == 1) (bit_at-zero (7 - j % 8))
alike bytes false j is = ap (λ b. bit_at b (7 - j % 8) == 1) is ∙ ap (λ b. b == 1) (bit_at_ones 8 (7 - j % 8) (omega arith))

module _ (bytes : List ℕ) (mark : Bool) (from j : ℕ) (before : ArePassed bytes mark from j) where
  -- so the others of that byte are passed as well
  pub passed-byte : slice_index bytes (j / 8) ≡ (if mark then 0 else 255) → ArePassed bytes mark from (8 * (j / 8) + 8)
  passed-byte is place least below inside = elim (leb_tells (suc place) j) [
    | inl earlier ↦ before place least (let e = earlier.1 in omega arith) inside
    | inr later ↦ let same : place / 8 ≡ j / 8 = let l = later.1 in omega (arith, below) in alike bytes mark place (ap (slice_index bytes) same ∙ is)
  ]

  -- or one mark is
  pub passed-one : mark_at bytes j ≡ not mark → ArePassed bytes mark from (j + 1)
  passed-one is place least below inside = elim (leb_tells (suc place) j) [
    | inl earlier ↦ before place least (let e = earlier.1 in omega arith) inside
    | inr later ↦ let same : place ≡ j = let l = later.1 in omega (arith, below) in ap (mark_at bytes) same ∙ is
  ]

-- two marks that compare as equal are one, and others are each other's opposite
pub same-mark : (a b : Bool) → beq a b ≡ true → a ≡ b
same-mark a b is = (booleans_Decides a b).0 is

pub other-mark : (a b : Bool) → beq a b ≡ false → a ≡ not b
other-mark true true is = absurd (cc)
other-mark true false is = refl
other-mark false true is = refl
other-mark false false is = absurd (cc)

-- a search through the bits of a row is one through its marks
pub found-marks : (bytes : List ℕ) (mark : Bool) (from at : ℕ) → IsFound (mark_at bytes) mark from 182 at → IsFound (λ j. get_or (marks_of bytes) j false) mark from 182 at
found-marks bytes mark from at is = record {
  least = is.least;
  within = is.within;
  passed = λ j least below. mark-marks_of bytes j (let w = is.within in omega (arith, below)) ∙ is.passed j least below;
  found = λ inside. mark-marks_of bytes at inside ∙ is.found inside;
}

-- a bit that is set or cleared is a mark that is set or cleared
pub set-marks : (bytes : List ℕ) (j byte : ℕ) (mark : Bool) → length bytes ≡ 23 → j < 182 → (bit_at byte (7 - j % 8) == 1) ≡ mark
    → ((k : ℕ) → k < 8 → k ≢ 7 - j % 8 → bit_at byte k ≡ bit_at (slice_index bytes (j / 8)) k)
    → marks_of (set bytes (j / 8) byte) ≡ set (marks_of bytes) j mark
set-marks bytes j byte mark size below same others =
    sym (all_marks (set bytes (j / 8) byte) (set (marks_of bytes) j mark) (length-set (marks_of bytes) j mark ∙ length-marks_of bytes)
    (λ k inside. sym (at_place k inside (eqb_tells k j)))) where
      in_byte : j / 8 < length bytes
      in_byte = omega (arith, size)

      -- the same byte has another bit there
      same_byte : (k : ℕ) → k ≢ j → k / 8 ≡ j / 8 → bit_at (get_or (set bytes (j / 8) byte) (k / 8) 0) (7 - k % 8) ≡ bit_at (get_or bytes (k / 8) 0) (7 - k % 8)
      same_byte k apart here =
          let apart_bits : 7 - k % 8 ≢ 7 - j % 8 = λ equal. apart (omega (arith, here, equal)) in
          rw here (ap (λ b. bit_at b (7 - k % 8)) (get_or-set_same bytes (j / 8) byte 0 in_byte) ∙ others (7 - k % 8) (omega arith) apart_bits)

      other_byte : (k : ℕ) → k / 8 ≢ j / 8 → bit_at (get_or (set bytes (j / 8) byte) (k / 8) 0) (7 - k % 8) ≡ bit_at (get_or bytes (k / 8) 0) (7 - k % 8)
      other_byte k elsewhere = ap (λ b. bit_at b (7 - k % 8)) (get_or-set_other bytes (j / 8) (k / 8) byte 0 elsewhere)

      other_bit : (k : ℕ) → k ≢ j → ((((k / 8 == j / 8) ≡ true) × (k / 8 ≡ j / 8)) ⊎ (((k / 8 == j / 8) ≡ false) × (k / 8 ≢ j / 8)))
          → bit_at (get_or (set bytes (j / 8) byte) (k / 8) 0) (7 - k % 8) ≡ bit_at (get_or bytes (k / 8) 0) (7 - k % 8)
      other_bit k apart (inl is) = same_byte k apart is.1
      other_bit k apart (inr is) = other_byte k is.1

      at_place : (k : ℕ) → k < 182 → ((((k == j) ≡ true) × (k ≡ j)) ⊎ (((k == j) ≡ false) × (k ≢ j)))
          → mark_at (set bytes (j / 8) byte) k ≡ get_or (set (marks_of bytes) j mark) k false
      at_place k inside (inl is) =
          rw is.1 (ap (λ b. bit_at b (7 - j % 8) == 1) (get_or-set_same bytes (j / 8) byte 0 in_byte) ∙ same
          ∙ sym (get_or-set_same (marks_of bytes) j mark false (subst (λ n. j < n) (sym (length-marks_of bytes)) below)))
      at_place k inside (inr is) =
          ap (λ b. b == 1) (other_bit k is.1 (eqb_tells (k / 8) (j / 8)))
          ∙ sym (get_or-set_other (marks_of bytes) j k mark false is.1 ∙ mark-marks_of bytes k inside)

-- the marks of row i
pub line-marks : (rows : List RowMarks) (i : ℕ) (default : RowMarks) → i < length rows → marks_line (map marks_of_row rows) i ≡ marks_of_row (get_or rows i default)
line-marks rows i default within = get_or-map marks_of_row rows i default [] within

-- and there are 182
pub length-line : (rows : List RowMarks) (i : ℕ) → i < length rows → length (marks_line (map marks_of_row rows) i) ≡ 182
length-line rows i within =
    let default : RowMarks = record { bits = [] } in
    ap length (line-marks rows i default within) ∙ length-marks_of (get_or rows i default).bits
