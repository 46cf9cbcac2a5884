-- The tables of the two codes of an ECC block, as the checker computes them from the definitions.
use Rattle.std.proofs.Common.{◌≡◌, ℕ, ◌-◌, ◌^◌, ◌<◌, zero, suc, List, [], ◌∷◌, ◌++◌, length, get_or, map, replicate, refl, sym, ap, ◌∙◌, arith, zero-add}
use Rattle.std.specs.Prelude.{nat_lt, true}
use Rattle.std.specs.List.{list_all, range_with_len}
use Rattle.std.proofs.lemmas.Bool.{and_parts, ltb-true}
use Rattle.std.proofs.lemmas.List.{get_or-map}
use Rattle.std.proofs.lemmas.List.FromFn.{get_or-map-range_with_len}
use Rattle.coding.specs.Field.{product, partial_product, shifted, shift, power}
use Rattle.rs_code.specs.Inner.Polynomials.{sum_of, mul_scalar, times_root}
use Rattle.rs_code.specs.Inner.Registers.{register_bytes, HasMultiples, AreLater, AreTables, after_byte}
use Rattle.rs_code.specs.declared.tables.TheConstants.{PI_TABLES, PO_TABLES}
use Rattle.rs_code.proofs.Generator.{generator_of}

-- the sixteen bytes of a factor's entry: the generator times the factor, and zeros after it
multiple_at : List ℕ → ℕ → List ℕ
multiple_at generator factor = mul_scalar factor generator ++ replicate (16 - length (mul_scalar factor generator)) 0

-- a table with these bytes, entry by entry, has the generator's multiples
by_rows : (generator table : List ℕ) → length table ≡ 256 → map (register_bytes 16) table ≡ map (multiple_at generator) (range_with_len 0 256) → HasMultiples generator table 256
unfolding multiple_at
by_rows generator table long rows factor below =
    sym (get_or-map (register_bytes 16) table factor 0 [] (omega arith)) ∙ ap (λ t. get_or t factor []) rows ∙ get_or-map-range_with_len (multiple_at generator) 0 256 factor factor [] below (zero-add factor)

-- a table made of entries one byte later has at each factor what is left of the factor's entry
by_entries : (table entries later : List ℕ) → length entries ≡ 256 → later ≡ map (λ entry. after_byte table entry 0) entries → AreLater table entries later
by_entries table entries later long is factor below =
    ap (λ t. get_or t factor 0) is ∙ get_or-map (λ entry. after_byte table entry 0) entries factor 0 0 (omega arith)

-- the table with number k
table_at : List (List ℕ) → ℕ → List ℕ
table_at tables k = get_or tables k []

-- entries that are all below 2^128 are so at each factor, and 0 is read after them
all_words : (table : List ℕ) → list_all (λ entry. nat_lt entry (2 ^ 128)) table ≡ true → (factor : ℕ) → get_or table factor 0 < 2 ^ 128
all_words [] all factor = omega arith
all_words (entry ∷ table) all zero = ltb-true entry (2 ^ 128) (and_parts (nat_lt entry (2 ^ 128)) (list_all (λ e. nat_lt e (2 ^ 128)) table) all).0
all_words (entry ∷ table) all (suc factor) = all_words table (and_parts (nat_lt entry (2 ^ 128)) (list_all (λ e. nat_lt e (2 ^ 128)) table) all).1 factor

-- what the checker computes of a code: its generator multiplied out, each entry of the first table the generator times
-- its factor, in 128 bits, and the entries of each further table those of the one before a byte later
record AreComputed (r : ℕ) (generator : List ℕ) (tables : List (List ℕ)) : Type 0 where
  multiplied : generator_of r ≡ generator
  rows : map (register_bytes 16) (table_at tables 0) ≡ map (multiple_at generator) (range_with_len 0 256)
  words : list_all (λ entry. nat_lt entry (2 ^ 128)) (table_at tables 0) ≡ true
  size0 : length (table_at tables 0) ≡ 256
  size1 : length (table_at tables 1) ≡ 256
  size2 : length (table_at tables 2) ≡ 256
  one : table_at tables 1 ≡ map (λ entry. after_byte (table_at tables 0) entry 0) (table_at tables 0)
  two : table_at tables 2 ≡ map (λ entry. after_byte (table_at tables 0) entry 0) (table_at tables 1)
  three : table_at tables 3 ≡ map (λ entry. after_byte (table_at tables 0) entry 0) (table_at tables 2)

-- so the four tables are right for the generator
tables_of : (r : ℕ) (generator : List ℕ) (tables : List (List ℕ)) → AreComputed r generator tables → AreTables (generator_of r) tables
unfolding table_at
tables_of r generator tables are = record {
  words = all_words (table_at tables 0) are.words;
  multiples = rw are.multiplied (by_rows generator (table_at tables 0) are.size0 are.rows);
  one = by_entries (table_at tables 0) (table_at tables 0) (table_at tables 1) are.size0 are.one;
  two = by_entries (table_at tables 0) (table_at tables 1) (table_at tables 2) are.size1 are.two;
  three = by_entries (table_at tables 0) (table_at tables 2) (table_at tables 3) are.size2 are.three;
}

-- those of the inner parity
pub PI-tables : AreTables (generator_of 10) PI_TABLES
unfolding generator_of times_root sum_of mul_scalar power product partial_product shifted shift multiple_at register_bytes after_byte table_at
PI-tables = tables_of 10 (0xD8 ∷ 0xC2 ∷ 0x9F ∷ 0x6F ∷ 0xC7 ∷ 0x5E ∷ 0x5F ∷ 0x71 ∷ 0x9D ∷ 0xC1 ∷ []) PI_TABLES
    (record { multiplied = refl; rows = refl; words = refl; size0 = refl; size1 = refl; size2 = refl; one = refl; two = refl; three = refl })

-- those of the outer parity
pub PO-tables : AreTables (generator_of 16) PO_TABLES
unfolding generator_of times_root sum_of mul_scalar power product partial_product shifted shift multiple_at register_bytes after_byte table_at
PO-tables = tables_of 16 (0x3B ∷ 0x0D ∷ 0x68 ∷ 0xBD ∷ 0x44 ∷ 0xD1 ∷ 0x1E ∷ 0x08 ∷ 0xA3 ∷ 0x41 ∷ 0x29 ∷ 0xE5 ∷ 0x62 ∷ 0x32 ∷ 0x24 ∷ 0x3B ∷ []) PO_TABLES
    (record { multiplied = refl; rows = refl; words = refl; size0 = refl; size1 = refl; size2 = refl; one = refl; two = refl; three = refl })
