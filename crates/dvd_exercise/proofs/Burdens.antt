-- Numbers that are added at places of a list, and what they sum up to.
use Rattle.std.proofs.Common.{◌≡◌, ◌≢◌, ◌⊎◌, ◌∙◌, ℕ, zero, suc, ◌+◌, ◌<◌, ◌≤◌, List, [], ◌∷◌, length, get_or, replicate, inl, inr, refl, ap, arith, ◌==◌, true, false, below_more}
use Rattle.std.proofs.lemmas.Bool.Decides.{eqb_tells}
use Rattle.std.proofs.lemmas.List.{length-replicate}

-- the sum of a list
unfoldable pub total : List ℕ → ℕ
total [] = 0
total (x ∷ xs) = x + total xs

-- a number is added at one place
unfoldable pub add_at : List ℕ → ℕ → ℕ → List ℕ
add_at [] i w = []
add_at (x ∷ xs) zero w = (x + w) ∷ xs
add_at (x ∷ xs) (suc i) w = x ∷ add_at xs i w

-- the length stays
length-add_at : (xs : List ℕ) (i w : ℕ) → length (add_at xs i w) ≡ length xs
unfolding add_at
length-add_at [] i w = refl
length-add_at (x ∷ xs) zero w = refl
length-add_at (x ∷ xs) (suc i) w = ap suc (length-add_at xs i w)

-- the sum grows by no more than the number
total-add_at : (xs : List ℕ) (i w : ℕ) → total (add_at xs i w) ≤ total xs + w
unfolding add_at total
total-add_at [] i w = omega arith
total-add_at (x ∷ xs) zero w = omega arith
total-add_at (x ∷ xs) (suc i) w = omega (arith, total-add_at xs i w)

-- no element gets less
add_at-grows : (xs : List ℕ) (i w k : ℕ) → get_or xs k 0 ≤ get_or (add_at xs i w) k 0
unfolding add_at
add_at-grows [] i w k = omega arith
add_at-grows (x ∷ xs) zero w zero = omega arith
add_at-grows (x ∷ xs) zero w (suc k) = omega arith
add_at-grows (x ∷ xs) (suc i) w zero = omega arith
add_at-grows (x ∷ xs) (suc i) w (suc k) = add_at-grows xs i w k

-- at its place the number is that one at least
add_at-here : (xs : List ℕ) (i w : ℕ) → i < length xs → w ≤ get_or (add_at xs i w) i 0
unfolding add_at
add_at-here [] i w within = absurd (omega arith)
add_at-here (x ∷ xs) zero w within = omega arith
add_at-here (x ∷ xs) (suc i) w within = add_at-here xs i w (omega arith)

-- the numbers weight 0 to weight n-1, each added at its place
unfoldable pub burdens : (ℕ → ℕ) → (ℕ → ℕ) → ℕ → ℕ → List ℕ
burdens place weight size zero = replicate size 0
burdens place weight size (suc n) = add_at (burdens place weight size n) (place n) (weight n)

-- their sum
unfoldable pub sum_below : (ℕ → ℕ) → ℕ → ℕ
sum_below weight zero = 0
sum_below weight (suc n) = sum_below weight n + weight n

-- zeros sum up to nothing
total-replicate_zero : (n : ℕ) → total (replicate n 0) ≡ 0
unfolding total
total-replicate_zero zero = refl
total-replicate_zero (suc n) = omega (arith, total-replicate_zero n)

module _ (place weight : ℕ → ℕ) (size : ℕ) where
  -- how long the list is
  pub length-burdens : (n : ℕ) → length (burdens place weight size n) ≡ size
  unfolding burdens
  length-burdens zero = length-replicate size 0
  length-burdens (suc n) = length-add_at (burdens place weight size n) (place n) (weight n) ∙ length-burdens n

  -- it sums up to no more than the numbers do
  pub total-burdens : (n : ℕ) → total (burdens place weight size n) ≤ sum_below weight n
  unfolding burdens sum_below
  total-burdens zero = omega (arith, total-replicate_zero size)
  total-burdens (suc n) = omega (arith, total-add_at (burdens place weight size n) (place n) (weight n), total-burdens n)

  -- each place bears its number at least
  pub burden-at : (n t : ℕ) → t < n → place t < size → weight t ≤ get_or (burdens place weight size n) (place t) 0
  unfolding burdens
  burden-at zero t below within = absurd (omega arith)
  burden-at (suc n) t below within =
      let before = burdens place weight size n in
      below_more (λ t. place t < size → weight t ≤ get_or (add_at before (place n) (weight n)) (place t) 0) n
      (λ t below within. omega (arith, burden-at n t below within, add_at-grows before (place n) (weight n) (place t)))
      (λ within. add_at-here before (place n) (weight n) (omega (arith, length-burdens n, within)))
      t (omega arith) within

-- one of the first n places is place k, or none is
abbrev pub Find : (ℕ → ℕ) → ℕ → ℕ → Type 0
Find place k n = ((t : ℕ) × (t < n) × (place t ≡ k)) ⊎ ((t : ℕ) → t < n → place t ≢ k)

-- which of them is so can be found out
pub find_place : (place : ℕ → ℕ) (k n : ℕ) → Find place k n
find_place place k zero = inr (λ t below. absurd (omega arith))
find_place place k (suc n) = go (find_place place k n) (eqb_tells (place n) k) where
  -- by whether it is one of those before, and whether it is this one
  go : Find place k n
      → (((place n == k) ≡ true) × (place n ≡ k)) ⊎ (((place n == k) ≡ false) × (place n ≢ k))
      → Find place k (suc n)
  go (inl found) here = inl (found.0, omega (arith, found.1), found.2)
  go (inr none) (inl here) = inl (n, omega arith, here.1)
  go (inr none) (inr other) = inr (λ t below. below_more (λ t. place t ≢ k) n none other.1 t (omega arith))
