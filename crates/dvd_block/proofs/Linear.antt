-- The values of all rows of a block at one point are a combination of its columns. So they are a codeword where the
-- columns are. As many rows as a column has parity bytes vanish wherever all others do: those of outer parity, or
-- marked ones.
use Rattle.std.proofs.Common.{◌≡◌, ℕ, zero, suc, ◌+◌, ◌-◌, ◌<◌, ◌≤◌, Bool, true, false, List, [], ◌∷◌, length, map, get_or, drop, All, replicate, refl, sym, ◌∙◌, ap, subst, arith}
use Rattle.std.specs.Prelude.{◌==◌, if◌then◌else◌}
use Rattle.std.proofs.lemmas.List.{get_or-map, length-map, length-replicate, get_or-replicate}
use Rattle.std.proofs.lemmas.List.Elements.{All-replicate, All-nil, All-cons}
use Rattle.std.proofs.lemmas.Bool.Decides.{nat_tests}
use Rattle.coding.specs.Field.{alpha, plus, product, power}
use Rattle.coding.specs.Words.{IsByte, IsCodeword, value}
use Rattle.gf_field.proofs.FieldLaws.{product-byte, product-comm, product-zero}
use Rattle.coding.specs.Distance.{weight}
use Rattle.coding.specs.Filling.{marked}
use Rattle.rs_code.specs.Inner.Polynomials.{sum_of, mul_scalar}
use Rattle.rs_code.proofs.Distance.{IsCodeword-light, IsCodeword-sum_of}
use Rattle.rs_code.proofs.Values.{value-nil, value-cons, value-mul_scalar, value-zeros, length-mul_scalar}
use Rattle.coding.specs.Product.{line, column}

-- the zero word
IsCodeword-zeros : (n r : ℕ) → IsCodeword n r (replicate n 0)
IsCodeword-zeros n r = record {
  size = length-replicate n 0;
  bytes = All-replicate IsByte n 0 (omega arith);
  vanishes = λ k below. value-zeros n (power alpha k);
}

-- a multiple of a word is one of bytes
scaled_bytes : (factor : ℕ) (word : List ℕ) → All IsByte (mul_scalar factor word)
unfolding mul_scalar
scaled_bytes factor [] = All-nil IsByte
scaled_bytes factor (byte ∷ word) = All-cons IsByte (product factor byte) (mul_scalar factor word) (product-byte factor byte) (scaled_bytes factor word)

-- a codeword times a factor
IsCodeword-mul_scalar : (n r factor : ℕ) (word : List ℕ) → IsCodeword n r word → IsCodeword n r (mul_scalar factor word)
IsCodeword-mul_scalar n r factor word codeword = record {
  size = length-mul_scalar factor word ∙ codeword.size;
  bytes = scaled_bytes factor word;
  vanishes = λ k below. value-mul_scalar factor word (power alpha k) ∙ ap (product factor) (codeword.vanishes k below) ∙ product-zero factor;
}

-- rows of one width
IsWide : ℕ → List (List ℕ) → Type 0
IsWide width [] = Unit {0}
IsWide width (row ∷ block) = (length row ≡ width) × IsWide width block

-- the values of all rows at one point
values : ℕ → List (List ℕ) → List ℕ
values x block = map (λ row. value row x) block

-- the rows without their first bytes
tails : List (List ℕ) → List (List ℕ)
tails block = map (λ row. drop 1 row) block

-- rows without their first bytes are one byte less wide
IsWide-tails : (width : ℕ) (block : List (List ℕ)) → IsWide (suc width) block → IsWide width (tails block)
unfolding IsWide tails
IsWide-tails width [] wide = tt
IsWide-tails width ([] ∷ block) wide = absurd (omega (arith, wide.0))
IsWide-tails width ((byte ∷ row) ∷ block) wide = (omega (arith, wide.0), IsWide-tails width block wide.1)

-- a column of what is left is the next one of the rows
column-tails : (block : List (List ℕ)) (j : ℕ) → column (tails block) j ≡ column block (suc j)
unfolding tails
column-tails [] j = refl
column-tails ([] ∷ block) j = ap (λ (l : List ℕ). 0 ∷ l) (column-tails block j)
column-tails ((byte ∷ row) ∷ block) j = ap (λ (l : List ℕ). get_or row j 0 ∷ l) (column-tails block j)

-- the first column counts with the highest power
values-split : (width x : ℕ) (block : List (List ℕ)) → IsWide (suc width) block
    → values x block ≡ sum_of (mul_scalar (power x width) (column block 0)) (values x (tails block))
unfolding IsWide values tails sum_of mul_scalar
values-split width x [] wide = refl
values-split width x ([] ∷ block) wide = absurd (omega (arith, wide.0))
values-split width x ((byte ∷ row) ∷ block) wide =
    let size : length row ≡ width = omega (arith, wide.0) in
    ap (λ (v : ℕ). v ∷ values x block) (value-cons byte row x
    ∙ ap (λ (p : ℕ). plus p (value row x)) (ap (λ (n : ℕ). product byte (power x n)) size ∙ product-comm byte (power x width)))
    ∙ ap (λ (l : List ℕ). plus (product (power x width) byte) (value row x) ∷ l) (values-split width x block wide.1)

-- rows without bytes have the value 0
values-none : (x : ℕ) (block : List (List ℕ)) → IsWide 0 block → values x block ≡ replicate (length block) 0
unfolding IsWide values
values-none x [] wide = refl
values-none x ([] ∷ block) wide = ap (λ (v : ℕ). v ∷ values x block) (value-nil x) ∙ ap (λ (l : List ℕ). 0 ∷ l) (values-none x block wide.1)
values-none x ((byte ∷ row) ∷ block) wide = absurd (omega (arith, wide.0))

-- a combination of codewords
IsCodeword-values : (width n r x : ℕ) (block : List (List ℕ)) → length block ≡ n → IsWide width block
    → ((j : ℕ) → j < width → IsCodeword n r (column block j)) → IsCodeword n r (values x block)
unfolding tails
IsCodeword-values zero n r x block height wide columns =
    subst (IsCodeword n r) (sym (values-none x block wide ∙ ap (λ (m : ℕ). replicate m 0) height)) (IsCodeword-zeros n r)
IsCodeword-values (suc width) n r x block height wide columns =
    subst (IsCodeword n r) (sym (values-split width x block wide))
    (IsCodeword-sum_of n r (mul_scalar (power x width) (column block 0)) (values x (tails block))
    (IsCodeword-mul_scalar n r (power x width) (column block 0) (columns 0 (omega arith)))
    (IsCodeword-values width n r x (tails block) (length-map block (λ (row : List ℕ). drop 1 row) ∙ height) (IsWide-tails width block wide)
    (λ j below. subst (IsCodeword n r) (sym (column-tails block j)) (columns (suc j) (omega arith)))))

-- a first byte that is 0 adds nothing to the weight
zero_weighs : (byte w : ℕ) → byte ≡ 0 → (if byte == 0 then 0 else 1) + w ≡ w
zero_weighs byte w none = grind (arith, nat_tests)

-- a first byte adds at most 1 to the weight
weighs_one : (byte w l : ℕ) → w ≤ l → (if byte == 0 then 0 else 1) + w ≤ suc l
weighs_one byte w l below = grind (arith, nat_tests)

-- zeros weigh nothing
weight_behind : (n : ℕ) (word : List ℕ) → ((i : ℕ) → i < n → get_or word i 0 ≡ 0) → weight word ≤ length word - n
unfolding weight
weight_behind n [] zeros = omega arith
weight_behind zero (byte ∷ word) zeros =
    let rest : weight word ≤ length word - 0 = weight_behind 0 word (λ i below. absurd (omega arith)) in
    let all : (if byte == 0 then 0 else 1) + weight word ≤ suc (length word) = weighs_one byte (weight word) (length word) (omega arith) in
    omega arith
weight_behind (suc n) (byte ∷ word) zeros =
    let rest : weight word ≤ length word - n = weight_behind n word (λ i below. zeros (suc i) (omega arith)) in
    let first : byte ≡ 0 = zeros 0 (omega arith) in
    let none : (if byte == 0 then 0 else 1) + weight word ≡ weight word = zero_weighs byte (weight word) first in
    omega arith

-- where all numbers but those at marked places are zeros, a word weighs no more than there are marks
weight_unmarked : (marks : List Bool) (word : List ℕ) → length word ≡ length marks
    → ((i : ℕ) → i < length word → get_or marks i false ≡ false → get_or word i 0 ≡ 0) → weight word ≤ marked marks
unfolding weight marked
weight_unmarked [] [] size zeros = omega arith
weight_unmarked [] (byte ∷ word) size zeros = absurd (omega (arith, size))
weight_unmarked (mark ∷ marks) [] size zeros = absurd (omega (arith, size))
weight_unmarked (true ∷ marks) (byte ∷ word) size zeros =
    let rest : weight word ≤ marked marks = weight_unmarked marks word (omega (arith, size)) (λ i below clear. zeros (suc i) (omega arith) clear) in
    let all : (if byte == 0 then 0 else 1) + weight word ≤ suc (marked marks) = weighs_one byte (weight word) (marked marks) rest in
    omega arith
weight_unmarked (false ∷ marks) (byte ∷ word) size zeros =
    let rest : weight word ≤ marked marks = weight_unmarked marks word (omega (arith, size)) (λ i below clear. zeros (suc i) (omega arith) clear) in
    let first : byte ≡ 0 = zeros 0 (omega arith) refl in
    let none : (if byte == 0 then 0 else 1) + weight word ≡ weight word = zero_weighs byte (weight word) first in
    omega arith

-- rows each of which has that width are of one width
IsWide-all : (width : ℕ) (block : List (List ℕ)) → ((i : ℕ) → i < length block → length (line block i) ≡ width) → IsWide width block
unfolding IsWide
IsWide-all width [] each = tt
IsWide-all width (row ∷ block) each = (each 0 (omega arith), IsWide-all width block (λ i below. each (suc i) (omega arith)))

-- value i is the one of row i
get_or-values : (x : ℕ) (block : List (List ℕ)) (i : ℕ) → i < length block → get_or (values x block) i 0 ≡ value (line block i) x
unfolding values
get_or-values x block i below = get_or-map (λ (row : List ℕ). value row x) block i [] 0 below

-- there is a value for each row
length-values : (x : ℕ) (block : List (List ℕ)) → length (values x block) ≡ length block
unfolding values
length-values x block = length-map block (λ (row : List ℕ). value row x)

-- where every column is a codeword and few rows don't vanish at a point, all rows vanish there
light_vanish : (width n r x : ℕ) (block : List (List ℕ)) → n ≤ 255 → length block ≡ n → ((i : ℕ) → i < n → length (line block i) ≡ width)
    → ((j : ℕ) → j < width → IsCodeword n r (column block j)) → weight (values x block) ≤ r → (i : ℕ) → i < n → value (line block i) x ≡ 0
light_vanish width n r x block short height wide columns light i below =
    let codeword : IsCodeword n r (values x block) =
    IsCodeword-values width n r x block height (IsWide-all width block (λ k under. wide k (omega arith))) columns in
    let zeros : values x block ≡ replicate n 0 = IsCodeword-light n r (values x block) short codeword light in
    sym (get_or-values x block i (omega arith)) ∙ ap (λ (l : List ℕ). get_or l i 0) zeros ∙ get_or-replicate n i 0 0 below

-- so they do where the upper rows vanish there
pub rows_vanish : (width n r x : ℕ) (block : List (List ℕ)) → n ≤ 255 → r ≤ n → length block ≡ n → ((i : ℕ) → i < n → length (line block i) ≡ width)
    → ((j : ℕ) → j < width → IsCodeword n r (column block j))
    → ((i : ℕ) → i < n - r → value (line block i) x ≡ 0) → (i : ℕ) → i < n → value (line block i) x ≡ 0
rows_vanish width n r x block short fits height wide columns above =
    let upper : (k : ℕ) → k < n - r → get_or (values x block) k 0 ≡ 0 = λ k under. get_or-values x block k (omega arith) ∙ above k under in
    light_vanish width n r x block short height wide columns
    (omega (arith, weight_behind (n - r) (values x block) upper, length-values x block))

-- and where all rows vanish there that aren't among r marked ones
pub unmarked_vanish : (width n r x : ℕ) (block : List (List ℕ)) (marks : List Bool) → n ≤ 255 → length block ≡ n → length marks ≡ n → marked marks ≤ r
    → ((i : ℕ) → i < n → length (line block i) ≡ width) → ((j : ℕ) → j < width → IsCodeword n r (column block j))
    → ((i : ℕ) → i < n → get_or marks i false ≡ false → value (line block i) x ≡ 0) → (i : ℕ) → i < n → value (line block i) x ≡ 0
unmarked_vanish width n r x block marks short height size few wide columns unmarked =
    let long : length (values x block) ≡ length block = length-values x block in
    light_vanish width n r x block short height wide columns
    (omega (
      arith,
      few,
      weight_unmarked marks (values x block) (long ∙ height ∙ sym size)
          (λ k inside clear. get_or-values x block k (omega arith) ∙ unmarked k (omega arith) clear),
    ))
