-- Rows of 182 bytes that lie one after the other.
use Rattle.std.proofs.Common.{◌≡◌, ◌⊎◌, ◌∙◌, ℕ, zero, suc, ◌+◌, ◌-◌, ◌*◌, ◌<◌, ◌≤◌, List, [], ◌∷◌, ◌++◌, length, set, replicate, take, drop, inl, inr, refl, sym, ap, arith, length-set}
use Rattle.std.specs.List.{flat_map}
use Rattle.std.specs.Simd.{first_chunks}
use Rattle.std.proofs.lemmas.List.{drop-drop, drop-replicate, drop-set-add, drop-set-lt, drop-take, drop_at, get_or-replicate, get_or-set_other, get_or-set_same, length-drop, length-replicate, length-take-le, take-replicate, take-set-le, take-take, take_at}
use Rattle.std.proofs.Math.Seq.{take-set-lt}
use Rattle.std.proofs.lemmas.List.FromFn.{length-map-range_with_len, get_or-map-range_with_len}
use Rattle.coding.specs.Product.{line}
use Rattle.dvd_capture.specs.Parts.{row_in, rows_in}
use Rattle.dvd_capture.proofs.Mapped.{mapped}

-- a number is below another or not
pub below_or : (i n : ℕ) → (i < n) ⊎ (n ≤ i)
below_or i n = grind arith

-- there are 208 rows
pub rows_in-height : (bytes : List ℕ) → length (rows_in bytes) ≡ 208
unfolding rows_in
rows_in-height bytes = length-map-range_with_len (row_in bytes) 0 208

-- row i
pub rows_in-line : (bytes : List ℕ) (i : ℕ) → i < 208 → line (rows_in bytes) i ≡ row_in bytes i
unfolding rows_in
rows_in-line bytes i below = get_or-map-range_with_len (row_in bytes) 0 208 i i [] below (omega arith)

-- which has 182 bytes
pub rows_in-width : (bytes : List ℕ) (i : ℕ) → length bytes ≡ 37_856 → i < 208 → length (line (rows_in bytes) i) ≡ 182
rows_in-width bytes i size below =
    ap length (rows_in-line bytes i below)
    ∙ length-take-le 182 (drop (182 * i) bytes) (omega (arith, length-drop (182 * i) bytes, size, below))

-- rows that are known one by one
pub rows_in-are : (bytes : List ℕ) (rows : List (List ℕ)) → length rows ≡ 208 → ((i : ℕ) → i < 208 → line rows i ≡ row_in bytes i) → rows ≡ rows_in bytes
unfolding rows_in
rows_in-are bytes rows height each = mapped (row_in bytes) rows 208 [] height each

-- a row that ends in the first m bytes
pub row_before : (m : ℕ) (bytes : List ℕ) (i : ℕ) → 182 * i + 182 ≤ m → row_in (take m bytes) i ≡ row_in bytes i
row_before m bytes i within =
    let at : ℕ = 182 * i in
    let parts : m ≡ at + (m - at) = omega (arith, within) in
    ap (λ (k : ℕ). take 182 (drop at (take k bytes))) parts
    ∙ ap (take 182) (drop-take at (m - at) bytes)
    ∙ take-take 182 (m - at) (drop at bytes) (omega (arith, within))

-- so it's the same where those are
pub same_before : (m : ℕ) (new old : List ℕ) (i : ℕ) → take m new ≡ take m old → 182 * i + 182 ≤ m → row_in new i ≡ row_in old i
same_before m new old i same within =
    sym (row_before m new i within) ∙ ap (λ (l : List ℕ). row_in l i) same ∙ row_before m old i within

-- and one that begins after m bytes, where those after them are
pub same_after : (m : ℕ) (new old : List ℕ) (i : ℕ) → drop m new ≡ drop m old → m ≤ 182 * i → row_in new i ≡ row_in old i
same_after m new old i same within =
    let parts : 182 * i ≡ m + (182 * i - m) = omega (arith, within) in
    let rest : ℕ = 182 * i - m in
    ap (λ (k : ℕ). take 182 (drop k new)) parts
    ∙ ap (take 182) (sym (drop-drop rest m new) ∙ ap (drop rest) same ∙ drop-drop rest m old)
    ∙ ap (λ (k : ℕ). take 182 (drop k old)) (sym parts)

-- row k of n bytes that begin with row i
pub part_row : (bytes : List ℕ) (at n i k : ℕ) → at ≡ 182 * i → 182 * k + 182 ≤ n → row_in (take n (drop at bytes)) k ≡ row_in bytes (i + k)
part_row bytes at n i k place within =
    let together : at + 182 * k ≡ 182 * (i + k) = omega (arith, place) in
    row_before n (drop at bytes) k within
    ∙ ap (take 182) (drop-drop (182 * k) at bytes ∙ ap (λ (m : ℕ). drop m bytes) together)

-- row k after i rows
pub row_after : (prefix rows : List ℕ) (i k : ℕ) → length prefix ≡ 182 * i → row_in (prefix ++ rows) (i + k) ≡ row_in rows k
row_after prefix rows i k size =
    let together : 182 * (i + k) ≡ 182 * i + 182 * k = omega arith in
    ap (take 182) (ap (λ (m : ℕ). drop m (prefix ++ rows)) together ∙ sym (drop-drop (182 * k) (182 * i) (prefix ++ rows))
    ∙ ap (drop (182 * k)) (drop_at prefix rows (182 * i) size))

-- one row is another one, and no other row
pub rows_in-set : (old new : List ℕ) (i : ℕ) (row : List ℕ) → i < 208 → row_in new i ≡ row
    → ((m : ℕ) → m < i → row_in new m ≡ row_in old m)
    → ((m : ℕ) → i < m → row_in new m ≡ row_in old m)
    → rows_in new ≡ set (rows_in old) i row
rows_in-set old new i row below here before past =
    sym (rows_in-are new (set (rows_in old) i row) (length-set (rows_in old) i row ∙ rows_in-height old)
    (λ m low. by_place m low (below_or m i) (below_or i m)))
  where
    by_place : (m : ℕ) → m < 208 → (m < i) ⊎ (i ≤ m) → (i < m) ⊎ (m ≤ i) → line (set (rows_in old) i row) m ≡ row_in new m
    by_place m low (inl less) other =
        get_or-set_other (rows_in old) i m row [] (omega (arith, less)) ∙ rows_in-line old m low ∙ sym (before m less)
    by_place m low (inr from) (inl more) =
        get_or-set_other (rows_in old) i m row [] (omega (arith, more)) ∙ rows_in-line old m low ∙ sym (past m more)
    by_place m low (inr from) (inr to) =
        let same : m ≡ i = omega (arith, from, to) in
        ap (line (set (rows_in old) i row)) same
        ∙ get_or-set_same (rows_in old) i row [] (omega (arith, rows_in-height old, below))
        ∙ sym here ∙ ap (row_in new) (sym same)

-- one byte is another one
pub rows_in-set_byte : (bytes : List ℕ) (i j byte : ℕ) → i < 208 → j < 182
    → rows_in (set bytes (182 * i + j) byte) ≡ set (rows_in bytes) i (set (line (rows_in bytes) i) j byte)
rows_in-set_byte bytes i j byte below low =
    let at : ℕ = 182 * i in
    let new : List ℕ = set bytes (at + j) byte in
    rows_in-set bytes new i (set (line (rows_in bytes) i) j byte) below
    (ap (take 182) (drop-set-add at bytes j byte) ∙ take-set-lt 182 (drop at bytes) j byte low
    ∙ ap (λ (l : List ℕ). set l j byte) (sym (rows_in-line bytes i below)))
    (λ m less. same_before at new bytes m (take-set-le at bytes (at + j) byte (omega arith)) (omega (arith, less)))
    (λ m more. same_after (at + 182) new bytes m (drop-set-lt (at + 182) bytes (at + j) byte (omega (arith, low))) (omega (arith, more)))

-- zeros are rows of zeros
pub rows_in-zeros : rows_in (replicate 37_856 0) ≡ replicate 208 (replicate 182 0)
rows_in-zeros =
    sym (rows_in-are (replicate 37_856 0) (replicate 208 (replicate 182 0)) (length-replicate {A = List ℕ} 208 (replicate 182 0))
    (λ i below. get_or-replicate 208 i (replicate 182 0) [] below
    ∙ sym (ap (take 182) (drop-replicate (182 * i) 37_856 0) ∙ take-replicate 182 (37_856 - 182 * i) 0 (omega (arith, below)))))

-- row i of rows that are put one after the other
flat_row : (rows : List (List ℕ)) (i : ℕ) → ((k : ℕ) → k < length rows → length (line rows k) ≡ 182) → i < length rows
    → row_in (flat_map (λ (row : List ℕ). row) rows) i ≡ line rows i
flat_row [] i widths inside = absurd (omega arith)
flat_row (row ∷ rows) zero widths inside = take_at row (flat_map (λ (r : List ℕ). r) rows) 182 (widths 0 (omega arith))
flat_row (row ∷ rows) (suc i) widths inside =
    let more : 182 + 182 * i ≡ 182 * suc i = omega arith in
    let rest : List ℕ = flat_map (λ (r : List ℕ). r) rows in
    ap (take 182) (ap (λ (m : ℕ). drop m (row ++ rest)) (sym more) ∙ sym (drop-drop (182 * i) 182 (row ++ rest))
    ∙ ap (drop (182 * i)) (drop_at row rest 182 (widths 0 (omega arith))))
    ∙ flat_row rows i (λ k low. widths (suc k) (omega (arith, low))) (omega arith)

-- 208 rows put one after the other
pub rows_in-flat : (rows : List (List ℕ)) → length rows ≡ 208 → ((k : ℕ) → k < length rows → length (line rows k) ≡ 182)
    → rows_in (flat_map (λ (row : List ℕ). row) rows) ≡ rows
rows_in-flat rows height widths =
    sym (rows_in-are (flat_map (λ (row : List ℕ). row) rows) rows height
    (λ i below. sym (flat_row rows i widths (omega (arith, below, height)))))

-- recorded row m of bytes that are cut into recorded rows
chunk_line : (count m : ℕ) (bytes : List ℕ) → m < count → line (first_chunks 182 count bytes) m ≡ row_in bytes m
chunk_line zero m bytes inside = absurd (omega arith)
chunk_line (suc count) zero bytes inside = refl
chunk_line (suc count) (suc m) bytes inside =
    let more : 182 + 182 * m ≡ 182 * suc m = omega arith in
    chunk_line count m (drop 182 bytes) (omega arith)
    ∙ ap (take 182) (drop-drop (182 * m) 182 bytes ∙ ap (λ (at : ℕ). drop at bytes) more)

-- so many rows are cut
length-first_chunks : (count : ℕ) (bytes : List ℕ) → length (first_chunks 182 count bytes) ≡ count
length-first_chunks zero bytes = refl
length-first_chunks (suc count) bytes = ap (λ (k : ℕ). suc k) (length-first_chunks count (drop 182 bytes))

-- bytes that are cut into rows
pub chunks_are : (count : ℕ) (bytes : List ℕ) → count ≡ 208 → first_chunks 182 count bytes ≡ rows_in bytes
chunks_are count bytes is =
    rows_in-are bytes (first_chunks 182 count bytes) (length-first_chunks count bytes ∙ is)
    (λ i below. chunk_line count i bytes (omega (arith, is, below)))
