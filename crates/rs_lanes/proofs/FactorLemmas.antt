-- The tables for sixteen points, found right by computing them.
use Rattle.std.proofs.Common.{◌≡◌, ℕ, ◌*◌, ◌%◌, ◌<◌, List, [], ◌∷◌, length, get_or, map, refl, sym, ap, ◌∙◌, arith}
use Rattle.std.specs.List.{range_with_len}
use Rattle.std.proofs.lemmas.List.{get_or-map}
use Rattle.std.proofs.lemmas.List.FromFn.{get_or-map-range_with_len}
use Rattle.coding.specs.Field.{alpha, shift, shifted, partial_product, product, power}
use Rattle.gf_field.specs.declared.powers.TheConstants.{POWERS as powers_of_alpha}
use Rattle.gf_field.proofs.FieldLaws.{power-alpha-mod}
use Rattle.gf_field.proofs.Logarithms.{POWERS_at}
use Rattle.rs_lanes.specs.declared.gf_tables.TheConstants.{LOW_PRODUCTS, HIGH_PRODUCTS, POWERS}
use Rattle.rs_lanes.specs.Inner.Tables.{IsTable, row_bytes}

-- the bytes of a row of a table, where those of all rows are computed
row-at : (f : ℕ → List ℕ) (table : List (List ℕ)) (count k : ℕ) → length table ≡ count → map row_bytes table ≡ map f (range_with_len 0 count)
    → k < count → row_bytes (get_or table k []) ≡ f k
row-at f table count k size made below =
    sym (get_or-map row_bytes table k [] [] (omega arith)) ∙ ap (λ rows. get_or rows k []) made
    ∙ get_or-map-range_with_len f 0 count k k [] below (omega arith)

-- the products of a factor with the low nibbles
unfoldable low_products : ℕ → List ℕ
low_products factor = map (λ n. product n factor) (range_with_len 0 16)

-- and with the high ones
unfoldable high_products : ℕ → List ℕ
high_products factor = map (λ n. product (16 * n) factor) (range_with_len 0 16)

-- those of each byte
LOW-made : map row_bytes LOW_PRODUCTS ≡ map low_products (range_with_len 0 256)
unfolding low_products product partial_product shifted shift
LOW-made = refl

HIGH-made : map row_bytes HIGH_PRODUCTS ≡ map high_products (range_with_len 0 256)
unfolding high_products product partial_product shifted shift
HIGH-made = refl

-- so the rows of a byte are a table of it
pub IsTable-products : (factor : ℕ) (low high : List ℕ) → factor < 256
    → low ≡ row_bytes (get_or LOW_PRODUCTS factor []) → high ≡ row_bytes (get_or HIGH_PRODUCTS factor []) → IsTable factor (low ∷ high ∷ [])
unfolding low_products high_products
IsTable-products factor low high byte is_low is_high = record {
  low = λ n below.
      ap (λ row. get_or row n 0) (is_low ∙ row-at low_products LOW_PRODUCTS 256 factor refl LOW-made byte)
      ∙ get_or-map-range_with_len (λ m. product m factor) 0 16 n n 0 below (omega arith);
  high = λ n below.
      ap (λ row. get_or row n 0) (is_high ∙ row-at high_products HIGH_PRODUCTS 256 factor refl HIGH-made byte)
      ∙ get_or-map-range_with_len (λ m. product (16 * m) factor) 0 16 n n 0 below (omega arith);
}

-- the powers of alpha^e, from the field's own table
unfoldable powers_in : ℕ → List ℕ
powers_in e = map (λ k. get_or powers_of_alpha (e * k % 255) 0) (range_with_len 0 16)

-- those of each exponent
POWERS-made : map row_bytes POWERS ≡ map powers_in (range_with_len 0 255)
unfolding powers_in
POWERS-made = refl

-- so byte k of a row is the power of alpha that the two give
pub POWERS-power : (e k : ℕ) (row : List ℕ) → e < 255 → k < 16 → row ≡ row_bytes (get_or POWERS e []) → get_or row k 0 ≡ power alpha (e * k)
unfolding powers_in
POWERS-power e k row below lane is =
    ap (λ entries. get_or entries k 0) (is ∙ row-at powers_in POWERS 255 e refl POWERS-made below)
    ∙ get_or-map-range_with_len (λ j. get_or powers_of_alpha (e * j % 255) 0) 0 16 k k 0 lane (omega arith)
    ∙ POWERS_at (e * k % 255) (omega arith)
    ∙ power-alpha-mod (e * k)
