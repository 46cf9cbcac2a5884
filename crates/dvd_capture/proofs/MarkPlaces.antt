-- The marks of a block by its places in the order of recording.
use Rattle.std.proofs.Common.{◌≡◌, ◌≢◌, ◌⊎◌, ◌∙◌, ℕ, suc, ◌+◌, ◌-◌, ◌*◌, ◌/◌, ◌%◌, ◌<◌, ◌≤◌, ◌==◌, ◌&&◌, ◌||◌, nat_le, nat_lt, not, Bool, true, false, List, [], length, set, get_or, inl, inr, sym, ap, subst, arith}
use Rattle.std.proofs.lemmas.Bool.Decides.{eqb_tells, leb_tells, nat_tests}
use Rattle.std.proofs.lemmas.List.{get_or-set_same, get_or-set_other}
use Rattle.coding.specs.Recording.{record_at, row_at}
use Rattle.dvd_capture.specs.Answers.{marks_line}
use Rattle.dvd_capture.specs.Inner.Listing.{AreMarked, IsFound}
use Rattle.dvd_capture.specs.Listed.{mark_of}
use Rattle.dvd_capture.proofs.Fetching.{record_at-row_at, row_at-lt}

module _ (marks : List (List Bool)) (place : ℕ) (value : Bool) (height : length marks ≡ 208)
    (width : length (marks_line marks (row_at (place / 182))) ≡ 182) (below : place < 37_856) where
  -- the row of the block that has the place
  abbrev pub row : ℕ
  row = row_at (place / 182)

  -- its marks, once the place has the value
  abbrev pub line_now : List Bool
  line_now = set (marks_line marks row) (place % 182) value

  -- the row is one of the block's
  row_below : row < length marks
  row_below = let r : row_at (place / 182) < 208 = row_at-lt (place / 182) (omega arith) in subst (λ n. row < n) (sym height) r

  -- the place has the value now
  pub mark-set_same : mark_of (set marks row line_now) place ≡ value
  mark-set_same =
      ap (λ (l : List Bool). get_or l (place % 182) false) (get_or-set_same marks row line_now [] row_below)
      ∙ get_or-set_same (marks_line marks row) (place % 182) value false (omega (arith, width))

  -- another place in the same row
  in_row : (other : ℕ) → other ≢ place → other / 182 ≡ place / 182 → get_or line_now (other % 182) false ≡ get_or (marks_line marks row) (other % 182) false
  in_row other apart same =
      let elsewhere : other % 182 ≢ place % 182 = λ equal. apart (omega (arith, same, equal)) in
      get_or-set_other (marks_line marks row) (place % 182) (other % 182) value false elsewhere

  -- another place has the mark that it had, be it in the same row or not
  by_row : (other : ℕ) → other < 37_856 → other ≢ place
      → ((((row_at (other / 182) == row) ≡ true) × (row_at (other / 182) ≡ row)) ⊎ (((row_at (other / 182) == row) ≡ false) × (row_at (other / 182) ≢ row)))
      → mark_of (set marks row line_now) other ≡ mark_of marks other
  by_row other other_below apart (inl is) =
      let same : other / 182 ≡ place / 182 = sym (record_at-row_at (other / 182) (omega arith)) ∙ ap record_at is.1 ∙ record_at-row_at (place / 182) (omega arith) in
      ap (λ (r : ℕ). get_or (get_or (set marks row line_now) r []) (other % 182) false) is.1
      ∙ ap (λ (l : List Bool). get_or l (other % 182) false) (get_or-set_same marks row line_now [] row_below)
      ∙ in_row other apart same
      ∙ sym (ap (λ (r : ℕ). get_or (get_or marks r []) (other % 182) false) is.1)
  by_row other other_below apart (inr is) =
      ap (λ (l : List Bool). get_or l (other % 182) false) (get_or-set_other marks row (row_at (other / 182)) line_now [] is.1)

  -- so all other places of the block have the marks that they had
  pub mark-set_other : (other : ℕ) → other < 37_856 → other ≢ place → mark_of (set marks row line_now) other ≡ mark_of marks other
  mark-set_other other other_below apart = by_row other other_below apart (eqb_tells (row_at (other / 182)) row)

-- one place more of a run is marked
pub mark-more : (old mid new : ℕ → Bool) (start at place : ℕ) → start ≤ at → mid place ≡ (old place || (nat_le start place && nat_lt place at))
    → (place ≢ at → new place ≡ mid place) → (place ≡ at → new place ≡ true)
    → new place ≡ (old place || (nat_le start place && nat_lt place (at + 1)))
mark-more old mid new start at place order before others same = by_place (eqb_tells place at) where
  by_place : ((((place == at) ≡ true) × (place ≡ at)) ⊎ (((place == at) ≡ false) × (place ≢ at))) → new place ≡ (old place || (nat_le start place && nat_lt place (at + 1)))
  by_place (inl is) = let now = same is.1 in grind (arith, nat_tests)
  by_place (inr is) = let now = others is.1 ∙ before in grind (arith, nat_tests)

-- SEARCHING row by row, from place `start` of recorded row m on.
module _ (marks : List (List Bool)) (mark : Bool) (from m start at : ℕ) (row_below : m < 208) (least : from ≤ 182 * m + start)
    (passed : AreMarked (mark_of marks) (not mark) from (182 * m + start))
    (row : IsFound (λ j. get_or (marks_line marks (row_at m)) j false) mark start 182 at) where
  -- the places of the row are those of the block from 182 m on
  in-row : (j : ℕ) → j < 182 → mark_of marks (182 * m + j) ≡ get_or (marks_line marks (row_at m)) j false
  in-row j below =
      let quotient : (182 * m + j) / 182 ≡ m = omega (arith, below) in
      let rest : (182 * m + j) % 182 ≡ j = omega (arith, below) in
      ap (λ q. get_or (marks_line marks (row_at q)) ((182 * m + j) % 182) false) quotient ∙ ap (λ r. get_or (marks_line marks (row_at m)) r false) rest

  -- so those before the place that was found are passed as well
  pub passed-row : AreMarked (mark_of marks) (not mark) from (182 * m + at)
  passed-row place low high = elim (leb_tells (suc place) (182 * m + start)) [
    | inl earlier ↦ passed place low (let e = earlier.1 in omega arith)
    | inr later ↦
        let l = later.1 in let w = row.within in
        let same : 182 * m + (place - 182 * m) ≡ place = omega (arith, l) in
        ap (mark_of marks) (sym same) ∙ in-row (place - 182 * m) (omega (arith, l, w, high)) ∙ row.passed (place - 182 * m) (omega (arith, l)) (omega (arith, l, high))
  ]

  -- and a place of the row that has the mark is the first
  pub found-in-row : at < 182 → IsFound (mark_of marks) mark from 37_856 (182 * m + at)
  found-in-row inside = record {
    least = let l = row.least in omega (arith, l, least);
    within = omega (arith, inside, row_below);
    passed = passed-row;
    found = λ below. in-row at inside ∙ row.found inside;
  }
