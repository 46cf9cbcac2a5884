-- A block whose rows got inner parity, and whose columns then got outer parity, is a product code block.
use Rattle.std.proofs.Common.{◌≡◌, ℕ, ◌+◌, ◌-◌, ◌<◌, ◌≤◌, List, [], ◌++◌, length, map, get_or, take, drop, All, inl, inr, sym, ◌∙◌, ap, subst, arith}
use Rattle.std.proofs.lemmas.Bool.{cases_lt}
use Rattle.std.proofs.lemmas.List.{get_or-take, get_or-drop, take-map, take-append-drop, take_all, take_at, length-drop, length-append, length-take-le, get_or_default, get_or-append_right}
use Rattle.std.specs.List.{range_with_len}
use Rattle.std.proofs.lemmas.List.FromFn.{get_or-map-range_with_len}
use Rattle.std.proofs.lemmas.Grind.{same_number_lists}
use Rattle.coding.specs.Field.{alpha, power}
use Rattle.coding.specs.Words.{IsByte, IsCodeword, IsEncoded}
use Rattle.coding.specs.Product.{line, place, column, IsParityAdded, IsProduct}
use Rattle.dvd_block.proofs.Columns.{length-column, get_or-column}
use Rattle.dvd_block.proofs.Linear.{rows_vanish}

-- `upper` is the block with inner parity alone, and `cells` has the outer parity of each column
pub record IsFilled (old upper cells block : List (List ℕ)) : Type 0 where
  pub height : length block ≡ 208
  pub upper_height : 192 ≤ length upper
  pub kept : take 192 block ≡ take 192 upper
  pub rows : (i : ℕ) → i < 192 → IsEncoded 182 10 (take 172 (line old i)) (line upper i)
  pub columns : (j : ℕ) → j < 182 → IsCodeword 208 16 (take 192 (column upper j) ++ line cells j)
  pub placed : (t j : ℕ) → t < 16 → j < 182 → place block (192 + t) j ≡ place cells j t
  pub sizes : (t : ℕ) → t < 16 → length (line block (192 + t)) ≡ 182

module _ (old upper cells block : List (List ℕ)) (filled : IsFilled old upper cells block) where
  -- row i of the block, above the outer parity, is row i of those with inner parity alone
  upper_line : (i : ℕ) → i < 192 → line block i ≡ line upper i
  upper_line i above =
      sym (get_or-take 192 block i [] above) ∙ ap (λ (b : List (List ℕ)). line b i) filled.kept ∙ get_or-take 192 upper i [] above

  -- the message bytes are as they were
  pub message_kept : (i j : ℕ) → i < 192 → j < 172 → place block i j ≡ place old i j
  message_kept i j above within =
      ap (λ (row : List ℕ). get_or row j 0) (upper_line i above)
      ∙ sym (get_or-take 172 (line upper i) j 0 within)
      ∙ ap (λ (row : List ℕ). get_or row j 0) (filled.rows i above).begins
      ∙ get_or-take 172 (line old i) j 0 within

  -- the first 192 bytes of column j are those of the same column with inner parity alone
  upper_column : (j : ℕ) → take 192 (column block j) ≡ take 192 (column upper j)
  upper_column j =
      take-map (λ (row : List ℕ). get_or row j 0) 192 block
      ∙ ap (λ (b : List (List ℕ)). map (λ (row : List ℕ). get_or row j 0) b) filled.kept
      ∙ sym (take-map (λ (row : List ℕ). get_or row j 0) 192 upper)

  -- the last 16 bytes of column j are the cells of its outer parity
  lower_column : (j : ℕ) → j < 182 → drop 192 (column block j) ≡ line cells j
  lower_column j within =
      let height : length (column block j) ≡ 208 = length-column block j ∙ filled.height in
      let above : length (take 192 (column upper j)) ≡ 192 = length-take-le 192 (column upper j) (omega (arith, length-column upper j, filled.upper_height)) in
      let size : length (line cells j) ≡ 16 =
      omega (arith, length-append (take 192 (column upper j)) (line cells j), (filled.columns j within).size) in
      same_number_lists (drop 192 (column block j)) (line cells j) (omega (arith, length-drop 192 (column block j)))
      (λ t below.
      let small : t < 16 = omega (arith, length-drop 192 (column block j)) in
      get_or-drop 192 (column block j) t 0
      ∙ get_or-column block j (192 + t)
      ∙ filled.placed t j small within)

  -- each of the 182 columns is a codeword of the outer code
  column_codeword : (j : ℕ) → j < 182 → IsCodeword 208 16 (column block j)
  column_codeword j within =
      subst (IsCodeword 208 16)
      (sym (sym (take-append-drop 192 (column block j))
      ∙ ap (λ (l : List ℕ). l ++ drop 192 (column block j)) (upper_column j)
      ∙ ap (λ (l : List ℕ). take 192 (column upper j) ++ l) (lower_column j within)))
      (filled.columns j within)

  -- each of the 192 rows above the outer parity is a codeword of the inner code
  upper_codeword : (i : ℕ) → i < 192 → IsCodeword 182 10 (line block i)
  upper_codeword i above = subst (IsCodeword 182 10) (sym (upper_line i above)) (filled.rows i above).codeword

  -- all 208 rows, those of outer parity too, have 182 bytes
  row_size : (i : ℕ) → i < 208 → length (line block i) ≡ 182
  row_size i below = elim (cases_lt i 192) [
    | inl above ↦ (upper_codeword i above).size
    | inr under ↦
        let place_is : 192 + (i - 192) ≡ i = omega arith in
        ap (λ (k : ℕ). length (line block k)) (sym place_is) ∙ filled.sizes (i - 192) (omega arith)
  ]

  -- a byte of a row is a byte of a column
  row_bytes : (i : ℕ) → i < 208 → All IsByte (line block i)
  row_bytes i below = λ j d within.
      let size : length (line block i) ≡ 182 = row_size i below in
      let column_is : IsCodeword 208 16 (column block j) = column_codeword j (omega arith) in
      subst IsByte (get_or-column block j i ∙ get_or_default (line block i) j 0 d within)
      (column_is.bytes i 0 (omega (arith, column_is.size)))

  -- the rows of outer parity are codewords of the inner code too, because every column is one of the outer code
  row_codeword : (i : ℕ) → i < 208 → IsCodeword 182 10 (line block i)
  row_codeword i below = record {
    size = row_size i below;
    bytes = row_bytes i below;
    vanishes = λ k few. rows_vanish 182 208 16 (power alpha k) block (omega arith) (omega arith) filled.height row_size column_codeword
        (λ r above. (upper_codeword r (omega arith)).vanishes k few) i below;
  }

  -- so the block is a product code block: its rows and its columns are codewords
  pub is_product : IsProduct block
  is_product = record {
    height = filled.height;
    rows = λ i d below. subst (IsCodeword 182 10) (get_or_default block i [] d below) (row_codeword i (omega (arith, filled.height)));
    columns = column_codeword;
  }

  -- and was given its parity
  pub parity_added : IsParityAdded old block
  parity_added = record { product = is_product; kept = message_kept }

-- the columns of rows of outer parity, as cells
pub cells_of : List (List ℕ) → List (List ℕ)
cells_of lower = map (column lower) (range_with_len 0 182)

-- rows with inner parity, and below them the rows of outer parity
pub filled_below : (old upper lower : List (List ℕ)) → length upper ≡ 192 → length lower ≡ 16
    → ((i : ℕ) → i < 192 → IsEncoded 182 10 (take 172 (line old i)) (line upper i))
    → ((j : ℕ) → j < 182 → IsEncoded 208 16 (column upper j) (column upper j ++ column lower j))
    → ((t : ℕ) → t < 16 → length (line lower t) ≡ 182)
    → IsFilled old upper (cells_of lower) (upper ++ lower)
unfolding cells_of
filled_below old upper lower upper_height lower_height rows columns sizes =
    let cell : (j : ℕ) → j < 182 → line (cells_of lower) j ≡ column lower j =
    λ j within. get_or-map-range_with_len (column lower) 0 182 j j [] within (omega arith) in
    let below : (t : ℕ) → line (upper ++ lower) (192 + t) ≡ line lower t =
    λ t. get_or-append_right upper lower 192 (192 + t) [] upper_height (omega arith) ∙ ap (line lower) (omega arith) in
    record {
      height = length-append upper lower ∙ omega arith;
      upper_height = omega arith;
      kept = take_at upper lower 192 upper_height ∙ sym (take_all 192 upper (omega arith));
      rows = rows;
      columns = λ j within.
          let whole : take 192 (column upper j) ≡ column upper j = take_all 192 (column upper j) (omega (arith, length-column upper j)) in
          rw (whole, cell j within) (columns j within).codeword;
      placed = λ t j small within.
          ap (λ (row : List ℕ). get_or row j 0) (below t)
          ∙ sym (ap (λ (word : List ℕ). get_or word t 0) (cell j within) ∙ get_or-column lower j t);
      sizes = λ t small. ap (λ (row : List ℕ). length row) (below t) ∙ sizes t small;
    }
