-- What the operations on vectors of bytes hold in each lane: HoldsLanes-zip2 of two vectors, HoldsLanes-splat of a
-- vector and one byte, byte_lane of one lane, HoldsLanes-low_nibbles and high_nibble-small of the two nibbles,
-- HoldsLanes-look_up of a table of sixteen at positions below sixteen, whole_table of a table in one vector,
-- HasLanes-zeros of vectors of zeros, either-zero of two lanes joined, and joined-zero of all lanes of a vector.
use Rattle.std.proofs.Common.{◌≡◌, ◌↔◌, ℕ, ◌+◌, ◌*◌, ◌/◌, ◌%◌, ◌<◌, List, [], ◌∷◌, zero, suc, length, get_or, replicate, take, get_or-take, length-take-le, sym, ap, subst, ◌∙◌, arith, w8, Fits, bit_and, bit_or}
use Rattle.std.specs.Int.Bits.{or_zero_r}
use Rattle.std.specs.Simd.Lanes.{Each1, zip2, fold_l}
use Rattle.std.proofs.lemmas.Nat.{and_mask, le_or_l, le_or_r}
use Rattle.std.proofs.lemmas.Simd.{length-zip2, get_or-zip2, get_or-replicate, length-replicate, length-swz_l, get_or-swz_l_below, swz_l, SwzOk, SwzOk-from_below, Each1-from_get_or, Each1-get_or}
use Rattle.coding.specs.Rows.{line}
use Rattle.rs_lanes.specs.Inner.Lanes.{HoldsLanes, HasLanes}

-- an operator on two vectors works lane by lane
pub HoldsLanes-zip2 : (count : ℕ) (f : ℕ → ℕ → ℕ) (a b : List ℕ) → length a ≡ count → length b ≡ count
    → HoldsLanes count (zip2 f a b) (λ k. f (get_or a k 0) (get_or b k 0))
HoldsLanes-zip2 count f a b size_a size_b = record {
  size = length-zip2 f a b (size_a ∙ sym size_b) ∙ size_a;
  each = λ k below. get_or-zip2 f a b k 0 0 0 (omega arith) (omega arith);
}

-- an operator on a vector and one byte works on each lane and that byte
pub HoldsLanes-splat : (count : ℕ) (f : ℕ → ℕ → ℕ) (a : List ℕ) (x : ℕ) → length a ≡ count → HoldsLanes count (zip2 f a (replicate count x)) (λ k. f (get_or a k 0) x)
HoldsLanes-splat count f a x size_a =
    let both = HoldsLanes-zip2 count f a (replicate count x) size_a (length-replicate count x) in
    record {
      size = both.size;
      each = λ k below. both.each k below ∙ ap (f (get_or a k 0)) (get_or-replicate count k x 0 below);
    }

-- the low nibbles of a vector
pub HoldsLanes-low_nibbles : (count : ℕ) (lanes : List ℕ) → length lanes ≡ count → HoldsLanes count (zip2 bit_and lanes (replicate count 15)) (λ k. get_or lanes k 0 % 16)
HoldsLanes-low_nibbles count lanes size =
    let masked = HoldsLanes-splat count bit_and lanes 15 size in
    record { size = masked.size; each = λ k below. masked.each k below ∙ and_mask (get_or lanes k 0) 4 }

-- each lane is a byte
pub byte_lane : (count : ℕ) (lanes : List ℕ) → (length lanes ≡ count) × Each1 (Fits w8) lanes → (k : ℕ) → k < count → get_or lanes k 0 < 256
byte_lane count lanes fits k below = (Each1-get_or (Fits w8) lanes k 0 (omega (arith, fits.0)) fits.1).fits

-- the high nibble of a byte is below sixteen
pub high_nibble-small : (count : ℕ) (lanes : List ℕ) → length lanes ≡ count → Each1 (Fits w8) lanes → (k : ℕ) → k < count → get_or lanes k 0 / 16 < 16
high_nibble-small count lanes size fits k below = omega (arith, byte_lane count lanes (size, fits) k below)

module _ (halves : ℕ) (positions : List ℕ) (f : ℕ → ℕ) (are : HoldsLanes (16 * halves) positions f) (small : (k : ℕ) → k < 16 * halves → f k < 16) where
  -- positions below sixteen may be looked up
  pub SwzOk-nibbles : SwzOk w8 16 (16 * halves) 0 positions
  SwzOk-nibbles =
      let size = are.size in
      SwzOk-from_below w8 16 halves (16 * halves) 0 positions (omega arith) (omega arith)
      (Each1-from_get_or (λ j. j < 16) positions 0 (λ i inside. omega (arith, are.each i (omega arith), small i (omega arith))))

  -- what is found in a vector that holds the table in each sixteen of its lanes
  pub HoldsLanes-look_up : (table all : List ℕ) → HoldsLanes (16 * halves) all (λ k. get_or table (k % 16) 0)
      → HoldsLanes (16 * halves) (swz_l w8 16 all 0 positions) (λ k. get_or table (f k) 0)
  HoldsLanes-look_up table all is =
      let size = are.size in
      record {
        size = length-swz_l w8 16 all 0 positions ∙ size;
        each = λ k below.
            let at = are.each k below in
            let few = small k below in
            get_or-swz_l_below w8 16 all 0 positions k (omega arith) (omega arith)
            ∙ is.each (16 * ((0 + k) / 16) + get_or positions k 0) (omega arith)
            ∙ ap (λ j. get_or table j 0) (omega arith);
      }

-- a vector of a whole table, for positions in sixteen lanes
pub whole_table : (table : List ℕ) → length table ≡ 16 → HoldsLanes 16 (take 16 table) (λ k. get_or table (k % 16) 0)
whole_table table size = record {
  size = length-take-le 16 table (omega arith);
  each = λ k below. get_or-take 16 table k 0 below ∙ ap (λ j. get_or table j 0) (omega arith);
}

-- each of several vectors of zeros has zeros
pub HasLanes-zeros : (count m : ℕ) → m < count → HasLanes (line (replicate count (replicate {A = ℕ} 32 0)) m) (λ j. 0)
HasLanes-zeros count m inside =
    subst (λ row. HasLanes row (λ j. 0)) (sym (get_or-replicate count m (replicate {A = ℕ} 32 0) [] inside))
    (record { size = length-replicate {A = ℕ} 32 0; each = λ j below. get_or-replicate {A = ℕ} 32 j 0 0 below })

-- two lanes joined are zero where both are
pub either-zero : (a b : ℕ) → (bit_or a b ≡ 0) ↔ ((a ≡ 0) × (b ≡ 0))
either-zero a b = ((λ zero_is. (omega (arith, le_or_l a b), omega (arith, le_or_r a b))), (λ both. rw (both.0, both.1) (or_zero_r 0)))

-- the first of several lanes, and those after it
first_and_rest : (x : ℕ) (xs : List ℕ) → x ≡ 0 → ((k : ℕ) → k < length xs → get_or xs k 0 ≡ 0) → (k : ℕ) → k < length (x ∷ xs) → get_or (x ∷ xs) k 0 ≡ 0
first_and_rest x xs first past zero below = first
first_and_rest x xs first past (suc k) below = past k (omega arith)

-- all lanes of a vector joined, and a number before them, are zero where each is
pub joined-zero : (a : ℕ) (lanes : List ℕ) → (fold_l bit_or a lanes ≡ 0) ↔ ((a ≡ 0) × ((k : ℕ) → k < length lanes → get_or lanes k 0 ≡ 0))
joined-zero a [] = ((λ none. (none, λ k below. absurd (omega arith))), (λ both. both.0))
joined-zero a (x ∷ xs) =
    let past = joined-zero (bit_or a x) xs in (
      (λ none. (((either-zero a x).0 (past.0 none).0).0, first_and_rest x xs ((either-zero a x).0 (past.0 none).0).1 (past.0 none).1)),
      (λ both. past.1 ((either-zero a x).1 (both.0, both.1 0 (omega arith)), λ k below. both.1 (suc k) (omega arith))),
    )
