-- The matrices of both codes, found right by computing the values of their columns.
use Rattle.std.proofs.Common.{◌≡◌, ℕ, ◌<◌, List, [], length, get_or, map, refl, sym, ap, ◌∙◌, arith, ◌==◌, if◌then◌else◌}
use Rattle.std.specs.List.{range_with_len}
use Rattle.std.proofs.lemmas.List.FromFn.{get_or-map-range_with_len}
use Rattle.coding.specs.Field.{alpha, shift, shifted, partial_product, product, power}
use Rattle.coding.specs.Words.{value}
use Rattle.rs_lanes.specs.declared.matrices.TheConstants.{PI_MATRIX, PO_MATRIX}
use Rattle.coding.specs.Rows.{place, column}
use Rattle.rs_lanes.specs.Inner.Parity.{IsBasis}

-- a function's values for the first r columns and the first r powers of alpha, a list for each column
abbrev of_pairs : ℕ → (ℕ → ℕ → ℕ) → List (List ℕ)
of_pairs r f = map (λ l. map (f l) (range_with_len 0 r)) (range_with_len 0 r)

-- one of these values
place-of_pairs : (r : ℕ) (f : ℕ → ℕ → ℕ) (l k : ℕ) → l < r → k < r → place (of_pairs r f) l k ≡ f l k
place-of_pairs r f l k row lane =
    ap (λ values. get_or values k 0) (get_or-map-range_with_len (λ m. map (f m) (range_with_len 0 r)) 0 r l l [] row (omega arith))
    ∙ get_or-map-range_with_len (f l) 0 r k k 0 lane (omega arith)

-- a matrix whose columns have the right values is a basis
IsBasis-computed : (r : ℕ) (matrix : List (List ℕ)) → length matrix ≡ r
    → of_pairs r (λ l k. value (column matrix l) (power alpha k)) ≡ of_pairs r (λ l k. if k == l then 1 else 0)
    → IsBasis r matrix
IsBasis-computed r matrix size same = record {
  size = size;
  values = λ k l power_below column_below.
      sym (place-of_pairs r (λ m i. value (column matrix m) (power alpha i)) l k column_below power_below)
      ∙ ap (λ values. place values l k) same
      ∙ place-of_pairs r (λ m i. if i == m then 1 else 0) l k column_below power_below;
}

-- the values of the inner parity's columns
PI-values : of_pairs 10 (λ l k. value (column PI_MATRIX l) (power alpha k)) ≡ of_pairs 10 (λ l k. if k == l then 1 else 0)
unfolding value power product partial_product shifted shift
PI-values = refl

-- the values of the outer parity's columns
PO-values : of_pairs 16 (λ l k. value (column PO_MATRIX l) (power alpha k)) ≡ of_pairs 16 (λ l k. if k == l then 1 else 0)
unfolding value power product partial_product shifted shift
PO-values = refl

-- so the words of ten bytes have the matrix for a basis
pub PI-basis : IsBasis 10 PI_MATRIX
PI-basis = IsBasis-computed 10 PI_MATRIX refl PI-values

-- and those of sixteen
pub PO-basis : IsBasis 16 PO_MATRIX
PO-basis = IsBasis-computed 16 PO_MATRIX refl PO-values
