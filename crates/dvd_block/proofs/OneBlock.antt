-- Sixteen frames have exactly one block.
use Rattle.std.proofs.Common.{◌≡◌, ℕ, zero, suc, ◌+◌, ◌*◌, ◌/◌, ◌%◌, ◌<◌, List, [], ◌∷◌, ◌++◌, length, map, get_or, take, drop, All, inl, inr, refl, sym, ◌∙◌, ap, subst, arith}
use Rattle.std.specs.List.{range_with_len}
use Rattle.std.proofs.lemmas.Bool.{cases_lt}
use Rattle.std.proofs.lemmas.Grind.{same_number_lists}
use Rattle.std.proofs.lemmas.List.{get_or-take, get_or-drop, get_or_append_left, get_or_push, get_or-map, get_or_default, length-take-le, length-drop, length_push, take-append-drop, take_all, ext_get_or}
use Rattle.std.proofs.lemmas.List.FromFn.{length-map-range_with_len, get_or-map-range_with_len}
use Rattle.coding.specs.Words.{IsByte, IsCodeword, IsEncoded}
use Rattle.rs_code.proofs.Codewords.{encodable, encoded_once}
use Rattle.coding.specs.Product.{line, place, column, HoldsFrame, IsBlockOf}
use Rattle.dvd_block.proofs.Columns.{length-column, get_or-column}
use Rattle.dvd_block.proofs.Filling.{IsFilled, is_product, message_kept}

-- row i is row i % 12 of frame i / 12
pub message_byte : (frames block : List (List ℕ)) (i p : ℕ) → IsBlockOf frames block → i < 192 → p < 172
    → place block i p ≡ get_or (line frames (i / 12)) (172 * (i % 12) + p) 0
unfolding HoldsFrame
message_byte frames block i p is above within =
    let row : 12 * (i / 12) + i % 12 ≡ i = omega arith in
    ap (λ (k : ℕ). place block k p) (sym row) ∙ is.holds (i / 12) (omega arith) (i % 12) p (omega arith) within

-- row i of a block
row_codeword : (frames block : List (List ℕ)) → IsBlockOf frames block → (i : ℕ) → i < 208 → IsCodeword 182 10 (line block i)
row_codeword frames block is i below = is.product.rows i [] (omega (arith, is.product.height))

-- two blocks of the same frames have the same upper rows
same_upper_row : (frames a b : List (List ℕ)) → IsBlockOf frames a → IsBlockOf frames b → (i : ℕ) → i < 192 → line a i ≡ line b i
same_upper_row frames a b is_a is_b i above =
    let code_a : IsCodeword 182 10 (line a i) = row_codeword frames a is_a i (omega arith) in
    let code_b : IsCodeword 182 10 (line b i) = row_codeword frames b is_b i (omega arith) in
    let size_a : length (take 172 (line a i)) ≡ 172 = length-take-le 172 (line a i) (omega (arith, code_a.size)) in
    let size_b : length (take 172 (line b i)) ≡ 172 = length-take-le 172 (line b i) (omega (arith, code_b.size)) in
    let message : take 172 (line b i) ≡ take 172 (line a i) =
    same_number_lists (take 172 (line b i)) (take 172 (line a i)) (size_b ∙ sym size_a)
    (λ p below.
    let inside : p < 172 = omega arith in
    get_or-take 172 (line b i) p 0 inside ∙ message_byte frames b i p is_b above inside
    ∙ sym (get_or-take 172 (line a i) p 0 inside ∙ message_byte frames a i p is_a above inside)) in
    encoded_once 182 10 (take 172 (line a i)) (line a i) (line b i) (omega arith) (omega arith)
    (record { codeword = code_a; begins = refl }) (record { codeword = code_b; begins = message })

-- so they have the same columns
same_column : (frames a b : List (List ℕ)) → IsBlockOf frames a → IsBlockOf frames b → (j : ℕ) → j < 182 → column a j ≡ column b j
same_column frames a b is_a is_b j within =
    let size_a : length (column a j) ≡ 208 = length-column a j ∙ is_a.product.height in
    let size_b : length (column b j) ≡ 208 = length-column b j ∙ is_b.product.height in
    let top_a : length (take 192 (column a j)) ≡ 192 = length-take-le 192 (column a j) (omega arith) in
    let top_b : length (take 192 (column b j)) ≡ 192 = length-take-le 192 (column b j) (omega arith) in
    let message : take 192 (column b j) ≡ take 192 (column a j) =
    same_number_lists (take 192 (column b j)) (take 192 (column a j)) (top_b ∙ sym top_a)
    (λ i below.
    let above : i < 192 = omega arith in
    get_or-take 192 (column b j) i 0 above ∙ get_or-column b j i
    ∙ ap (λ (row : List ℕ). get_or row j 0) (sym (same_upper_row frames a b is_a is_b i above))
    ∙ sym (get_or-take 192 (column a j) i 0 above ∙ get_or-column a j i)) in
    encoded_once 208 16 (take 192 (column a j)) (column a j) (column b j) (omega arith) (omega arith)
    (record { codeword = is_a.product.columns j within; begins = refl }) (record { codeword = is_b.product.columns j within; begins = message })

-- sixteen frames have one block at most
pub one_block_at_most : (frames a b : List (List ℕ)) → IsBlockOf frames a → IsBlockOf frames b → a ≡ b
one_block_at_most frames a b is_a is_b =
    ext_get_or [] a b (is_a.product.height ∙ sym is_b.product.height) (λ i below. same_row i (omega (arith, is_a.product.height)))
  where
    same_row : (i : ℕ) → i < 208 → line a i ≡ line b i
    same_row i below =
        let size_a : length (line a i) ≡ 182 = (row_codeword frames a is_a i below).size in
        let size_b : length (line b i) ≡ 182 = (row_codeword frames b is_b i below).size in
        same_number_lists (line a i) (line b i) (size_a ∙ sym size_b)
        (λ j within.
        let inside : j < 182 = omega arith in
        sym (get_or-column a j i)
        ∙ ap (λ (word : List ℕ). get_or word i 0) (same_column frames a b is_a is_b j inside)
        ∙ get_or-column b j i)

-- a list whose elements are found one by one
pub record Found (P : ℕ → List ℕ → Type 0) (n : ℕ) : Type 0 where
  pub list : List (List ℕ)
  pub size : length list ≡ n
  pub each : (i : ℕ) → i < n → P i (line list i)

-- one element more is found
found_more : (P : ℕ → List ℕ → Type 0) (n : ℕ) (before : Found P n) (last : List ℕ) → P n last → Found P (suc n)
found_more P n before last holds = record {
  list = before.list ++ last ∷ [];
  size = omega (arith, length_push before.list last, before.size);
  each = λ i below. elim (cases_lt i n) [
    | inl earlier ↦ subst (P i) (sym (get_or_append_left before.list (last ∷ []) [] i (omega (arith, before.size)))) (before.each i earlier)
    | inr at_end ↦
        let same : n ≡ i = omega arith in
        subst (λ (k : ℕ). P k (line (before.list ++ last ∷ []) k)) same
        (subst (P n) (sym (get_or_push before.list last [] n before.size)) holds)
  ];
}

-- where each element is there, the list of the first n is
found : (P : ℕ → List ℕ → Type 0) (n : ℕ) → ((i : ℕ) → i < n → (xs : List ℕ) × P i xs) → Found P n
found P zero some = record { list = []; size = refl; each = λ i below. absurd (omega arith) }
found P (suc n) some =
    let last = some n (omega arith) in
    found_more P n (found P n (λ i below. some i (omega arith))) last.0 last.1

-- a row by its places
pub record IsAcross (words : List (List ℕ)) (i : ℕ) (row : List ℕ) : Type 0 where
  pub width : length row ≡ 182
  pub each : (j : ℕ) → j < 182 → get_or row j 0 ≡ get_or (line words j) i 0

-- there is a row with byte i of each word
across : (words : List (List ℕ)) (i : ℕ) → (row : List ℕ) × IsAcross words i row
across words i = (
  map (λ (j : ℕ). get_or (line words j) i 0) (range_with_len 0 182),
  record {
    width = length-map-range_with_len (λ (j : ℕ). get_or (line words j) i 0) 0 182;
    each = λ j within. get_or-map-range_with_len (λ (j : ℕ). get_or (line words j) i 0) 0 182 j j 0 within (omega arith);
  },
)

-- Rows are encoded, then the columns of these, and the block has the columns.
module _ (frames : List (List ℕ)) (sizes : (f : ℕ) → f < 16 → length (line frames f) ≡ 2064) (bytes : (f : ℕ) → f < 16 → All IsByte (line frames f)) where
  -- the 172 bytes of frames that begin row i of the block
  message : ℕ → List ℕ
  message i = take 172 (drop (172 * (i % 12)) (line frames (i / 12)))

  -- they are 172, as a frame has 2,064 bytes, twelve times as many
  length-message : (i : ℕ) → i < 192 → length (message i) ≡ 172
  unfolding message
  length-message i above =
      length-take-le 172 (drop (172 * (i % 12)) (line frames (i / 12)))
      (omega (arith, length-drop (172 * (i % 12)) (line frames (i / 12)), sizes (i / 12) (omega arith)))

  -- byte p of row i's message is byte 172 (i % 12) + p of frame i / 12
  get_or-message : (i p d : ℕ) → p < 172 → get_or (message i) p d ≡ get_or (line frames (i / 12)) (172 * (i % 12) + p) d
  unfolding message
  get_or-message i p d within =
      get_or-take 172 (drop (172 * (i % 12)) (line frames (i / 12))) p d within ∙ get_or-drop (172 * (i % 12)) (line frames (i / 12)) p d

  -- they are bytes, as those of the frames are
  All-message : (i : ℕ) → i < 192 → All IsByte (message i)
  All-message i above = λ p d below.
      let inside : p < 172 = omega (arith, length-message i above) in
      subst IsByte (sym (get_or-message i p d inside))
      (bytes (i / 12) (omega arith) (172 * (i % 12) + p) d (omega (arith, sizes (i / 12) (omega arith))))

  -- each of the 192 messages has a row of 182 bytes: itself and its inner parity
  rows : Found (λ i row. IsEncoded 182 10 (message i) row) 192
  rows = found _ 192 (λ i above. encodable 182 10 (message i) (omega arith) (omega arith) (length-message i above) (All-message i above))

  -- the 192 rows with inner parity, above the outer parity
  upper : List (List ℕ)
  upper = rows.list

  -- a column of these rows has 192 bytes
  length-upper_column : (j : ℕ) → length (column upper j) ≡ 192
  unfolding upper
  length-upper_column j = length-column upper j ∙ rows.size

  -- they are bytes, as those of a codeword are
  All-upper_column : (j : ℕ) → j < 182 → All IsByte (column upper j)
  unfolding upper
  All-upper_column j within = λ i d below.
      let above : i < 192 = omega (arith, length-upper_column j) in
      let codeword : IsCodeword 182 10 (line upper i) = (rows.each i above).codeword in
      subst IsByte (sym (get_or_default (column upper j) i d 0 below ∙ get_or-column upper j i))
      (codeword.bytes j 0 (omega (arith, codeword.size)))

  -- each of the 182 columns has a word of 208 bytes: itself and its outer parity
  words : Found (λ j word. IsEncoded 208 16 (column upper j) word) 182
  words = found _ 182 (λ j within. encodable 208 16 (column upper j) (omega arith) (omega arith) (length-upper_column j) (All-upper_column j within))

  -- the 208 rows of the block: row i has byte i of each column's word
  lines : Found (IsAcross words.list) 208
  lines = found _ 208 (λ i below. across words.list i)

  -- the 16 bytes of outer parity of each column
  cells : List (List ℕ)
  cells = map (λ (word : List ℕ). drop 192 word) words.list

  -- the cells of column j are the last 16 bytes of its word
  line-cells : (j : ℕ) → j < 182 → line cells j ≡ drop 192 (line words.list j)
  unfolding cells
  line-cells j within = get_or-map (λ (word : List ℕ). drop 192 word) words.list j [] [] (omega (arith, words.size))

  -- the first 192 rows of the block are those with inner parity
  same_line : (i : ℕ) → i < 192 → line lines.list i ≡ line upper i
  unfolding upper
  same_line i above =
      let codeword : IsCodeword 182 10 (line upper i) = (rows.each i above).codeword in
      let is : IsAcross words.list i (line lines.list i) = lines.each i (omega arith) in
      same_number_lists (line lines.list i) (line upper i) (is.width ∙ sym codeword.size)
      (λ j below.
      let within : j < 182 = omega (arith, is.width) in
      is.each j within
      ∙ sym (get_or-take 192 (line words.list j) i 0 above)
      ∙ ap (λ (word : List ℕ). get_or word i 0) (words.each j within).begins
      ∙ get_or-column upper j i)

  -- so the rows across the columns' words are filled with inner parity, then with outer parity
  filled : IsFilled upper upper cells lines.list
  unfolding upper
  filled = record {
    height = lines.size;
    upper_height = omega (arith, rows.size);
    kept =
        ext_get_or [] (take 192 lines.list) (take 192 upper)
        (length-take-le 192 lines.list (omega (arith, lines.size)) ∙ sym (length-take-le 192 upper (omega (arith, rows.size))))
        (λ i below.
        let above : i < 192 = omega (arith, length-take-le 192 lines.list (omega (arith, lines.size))) in
        get_or-take 192 lines.list i [] above ∙ same_line i above ∙ sym (get_or-take 192 upper i [] above));
    rows = λ i above. record { codeword = (rows.each i above).codeword; begins = refl };
    columns = λ j within.
        let prefix : take 192 (column upper j) ≡ take 192 (line words.list j) =
        take_all 192 (column upper j) (omega (arith, length-upper_column j)) ∙ sym (words.each j within).begins in
        subst (IsCodeword 208 16)
        (sym (ap (λ (l : List ℕ). l ++ line cells j) prefix
        ∙ ap (λ (l : List ℕ). take 192 (line words.list j) ++ l) (line-cells j within)
        ∙ take-append-drop 192 (line words.list j)))
        (words.each j within).codeword;
    placed = λ t j below within.
        (lines.each (192 + t) (omega arith)).each j within
        ∙ sym (get_or-drop 192 (line words.list j) t 0)
        ∙ ap (λ (word : List ℕ). get_or word t 0) (sym (line-cells j within));
    sizes = λ t below. (lines.each (192 + t) (omega arith)).width;
  }

  -- frame f is in rows 12 f to 12 f + 11 of the block
  holds : (f : ℕ) → f < 16 → HoldsFrame f (line frames f) lines.list
  unfolding HoldsFrame upper
  holds f below = λ q p within inside.
      let i : ℕ = 12 * f + q in
      let above : i < 192 = omega arith in
      let frame_is : i / 12 ≡ f = omega arith in
      let row_is : i % 12 ≡ q = omega arith in
      message_kept upper upper cells lines.list filled i p above inside
      ∙ sym (get_or-take 172 (line upper i) p 0 inside)
      ∙ ap (λ (row : List ℕ). get_or row p 0) (rows.each i above).begins
      ∙ get_or-message i p 0 inside
      ∙ ap (λ (g : ℕ). get_or (line frames g) (172 * (i % 12) + p) 0) frame_is
      ∙ ap (λ (r : ℕ). get_or (line frames f) (172 * r + p) 0) row_is

  -- the rows across the columns' words are a block of the sixteen frames, so there is one
  pub some_block : (block : List (List ℕ)) × IsBlockOf frames block
  some_block = (lines.list, record { product = is_product upper upper cells lines.list filled; holds = holds })
