-- How many marks the bits of a row have: the set bits of its bytes, but for the two spare ones.
use Rattle.std.proofs.Common.{◌≡◌, ◌∙◌, ℕ, ◌+◌, ◌*◌, ◌-◌, ◌/◌, ◌%◌, ◌<◌, ◌==◌, false, List, map, take, get_or, count_ones, refl, sym, ap, subst, arith}
use lib.Count.{ones}
use mir.Val.{bool_byte}
use Rattle.std.specs.Int.{bit_at}
use Rattle.std.specs.List.{range_with_len}
use Rattle.std.proofs.lemmas.List.{take_all}
use Rattle.std.proofs.lemmas.List.FromFn.{get_or-map-range_with_len}
use Rattle.coding.specs.Filling.{marked}
use Rattle.rs_decode.proofs.Marks.{marked-next}
use Rattle.dvd_capture.specs.MarkBits.{marks_of}
use Rattle.dvd_capture.proofs.MarkLists.{length-marks_of, mark-marks_of}

-- how many of the eight bits of a byte are set, and how many of its upper six
abbrev eight : ℕ → ℕ
eight byte = bool_byte (bit_at byte 7 == 1) + bool_byte (bit_at byte 6 == 1) + bool_byte (bit_at byte 5 == 1) + bool_byte (bit_at byte 4 == 1) + bool_byte (bit_at byte 3 == 1) + bool_byte (bit_at byte 2 == 1) + bool_byte (bit_at byte 1 == 1) + bool_byte (bit_at byte 0 == 1)

abbrev six : ℕ → ℕ
six byte = bool_byte (bit_at byte 7 == 1) + bool_byte (bit_at byte 6 == 1) + bool_byte (bit_at byte 5 == 1) + bool_byte (bit_at byte 4 == 1) + bool_byte (bit_at byte 3 == 1) + bool_byte (bit_at byte 2 == 1)

-- these are the ones of the byte, and of its quarter: seen for each of the 256 bytes
all_ones : map count_ones (range_with_len 0 256) ≡ map eight (range_with_len 0 256)
unfolding ones
all_ones = refl

all_upper_ones : map (λ byte. count_ones (byte / 4)) (range_with_len 0 256) ≡ map six (range_with_len 0 256)
unfolding ones
all_upper_ones = refl

by_byte : (f g : ℕ → ℕ) (byte : ℕ) → byte < 256 → map f (range_with_len 0 256) ≡ map g (range_with_len 0 256) → f byte ≡ g byte
by_byte f g byte fits same =
    sym (get_or-map-range_with_len f 0 256 byte byte 0 fits (omega arith)) ∙ ap (λ (l : List ℕ). get_or l byte 0) same
    ∙ get_or-map-range_with_len g 0 256 byte byte 0 fits (omega arith)

module _ (row : List ℕ) where
  -- how many of the first n places are marked
  abbrev pub before : ℕ → ℕ
  before n = marked (take n (marks_of row))

  -- one more place is counted by its bit: place q of byte k
  next-bit : (k q bit from to : ℕ) → from ≡ 8 * k + q → to ≡ from + 1 → bit + q ≡ 7 → from < 182
      → before to ≡ before from + bool_byte (bit_at (get_or row k 0) bit == 1)
  next-bit k q bit from to here next seven inside =
      let byte_is : from / 8 ≡ k = omega (arith, here, seven) in
      let bit_is : 7 - from % 8 ≡ bit = omega (arith, here, seven) in
      let is : get_or (marks_of row) from false ≡ (bit_at (get_or row k 0) bit == 1) =
      mark-marks_of row from inside ∙ ap (λ p. bit_at (get_or row p 0) (7 - from % 8) == 1) byte_is ∙ ap (λ m. bit_at (get_or row k 0) m == 1) bit_is in
      ap before next ∙ marked-next (marks_of row) from (subst (λ n. from < n) (sym (length-marks_of row)) inside) ∙ ap (λ m. before from + bool_byte m) is

  -- the first six places of byte k
  before-six : (k : ℕ) → k < 23 → before (8 * k + 6) ≡ before (8 * k) + six (get_or row k 0)
  before-six k few =
      let a = next-bit k 0 7 (8 * k) (8 * k + 1) (omega arith) (omega arith) (omega arith) (omega (arith, few)) in
      let b = next-bit k 1 6 (8 * k + 1) (8 * k + 2) (omega arith) (omega arith) (omega arith) (omega (arith, few)) in
      let c = next-bit k 2 5 (8 * k + 2) (8 * k + 3) (omega arith) (omega arith) (omega arith) (omega (arith, few)) in
      let d = next-bit k 3 4 (8 * k + 3) (8 * k + 4) (omega arith) (omega arith) (omega arith) (omega (arith, few)) in
      let e = next-bit k 4 3 (8 * k + 4) (8 * k + 5) (omega arith) (omega arith) (omega arith) (omega (arith, few)) in
      let f = next-bit k 5 2 (8 * k + 5) (8 * k + 6) (omega arith) (omega arith) (omega arith) (omega (arith, few)) in
      omega (arith, a, b, c, d, e, f)

  -- and all eight
  before-eight : (k : ℕ) → k < 22 → before (8 * k + 8) ≡ before (8 * k) + eight (get_or row k 0)
  before-eight k few =
      let prefix = before-six k (omega (arith, few)) in
      let g = next-bit k 6 1 (8 * k + 6) (8 * k + 7) (omega arith) (omega arith) (omega arith) (omega (arith, few)) in
      let h = next-bit k 7 0 (8 * k + 7) (8 * k + 8) (omega arith) (omega arith) (omega arith) (omega (arith, few)) in
      omega (arith, prefix, g, h)

  -- a count that goes on by the ones of a byte
  pub ones-counted : (k count : ℕ) → k < 22 → get_or row k 0 < 256 → count ≡ before (8 * k) → count + count_ones (get_or row k 0) ≡ before (8 * (k + 1))
  ones-counted k count few fits counted =
      let ones = by_byte count_ones eight (get_or row k 0) fits all_ones in
      let next : before (8 * k + 8) ≡ before (8 * (k + 1)) = ap before (omega arith) in
      omega (arith, counted, ones, before-eight k few, next)

  -- and that ends with those of the last, whose lower two bits are spare
  pub last-counted : (count : ℕ) → get_or row 22 0 < 256 → count ≡ before 176 → count + count_ones (get_or row 22 0 / 4) ≡ marked (marks_of row)
  last-counted count fits counted =
      let ones = by_byte (λ byte. count_ones (byte / 4)) six (get_or row 22 0) fits all_upper_ones in
      let all : before 182 ≡ marked (marks_of row) = ap marked (take_all 182 (marks_of row) (omega (arith, length-marks_of row))) in
      omega (arith, counted, ones, before-six 22 (omega arith), all)
