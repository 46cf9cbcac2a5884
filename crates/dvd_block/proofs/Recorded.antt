-- Rows in the order of recording, one after the other.
use Rattle.std.proofs.Common.{◌≡◌, ℕ, zero, suc, ◌+◌, ◌≤◌, List, [], ◌++◌, length, take, Result, Ok, Err, OnErr, refl, sym, ◌∙◌, ap, append_assoc, arith}
use Rattle.std.proofs.lemmas.List.{append-nil}
use Rattle.std.proofs.lemmas.Slice.{take-put_mid}
use Rattle.coding.specs.Product.{line}
use Rattle.std.specs.List.{flat_map, range_with_len}
use Rattle.coding.specs.Recording.{recorded_rows, recording, row_at}
use Rattle.dvd_block.proofs.RowParts.{part_written}

-- the bytes of so many recorded rows from recorded row m on
unfoldable pub recorded : ℕ → ℕ → List (List ℕ) → List ℕ
recorded m count block = flat_map (λ k. line block (row_at k)) (range_with_len m count)

-- all of them are the recording of the block
pub recording-is : (block : List (List ℕ)) → recording block ≡ recorded 0 208 block
unfolding recording recorded_rows recorded
recording-is block = refl

-- no rows are no bytes
pub recorded-none : (m : ℕ) (block : List (List ℕ)) → recorded m 0 block ≡ []
unfolding recorded
recorded-none m block = refl

-- the first of the rows, and those after it
recorded-first : (m n : ℕ) (block : List (List ℕ)) → recorded m (suc n) block ≡ line block (row_at m) ++ recorded (m + 1) n block
unfolding recorded
recorded-first m n block = refl

-- n rows, and k rows after them
pub recorded-add : (m n k : ℕ) (block : List (List ℕ)) → recorded m (n + k) block ≡ recorded m n block ++ recorded (m + n) k block
recorded-add m zero k block =
    let here : m + 0 ≡ m = omega arith in
    let whole : zero + k ≡ k = omega arith in
    ap (λ (c : ℕ). recorded m c block) whole
    ∙ ap (λ (c : ℕ). recorded c k block) (sym here)
    ∙ ap (λ (l : List ℕ). l ++ recorded (m + 0) k block) (sym (recorded-none m block))
recorded-add m (suc n) k block =
    let shape : suc n + k ≡ suc (n + k) = omega arith in
    let past : m + 1 + n ≡ m + suc n = omega arith in
    ap (λ (c : ℕ). recorded m c block) shape
    ∙ recorded-first m (n + k) block
    ∙ ap (λ (l : List ℕ). line block (row_at m) ++ l) (recorded-add (m + 1) n k block)
    ∙ sym (append_assoc (line block (row_at m)) (recorded (m + 1) n block) (recorded (m + 1 + n) k block))
    ∙ ap (λ (l : List ℕ). l ++ recorded (m + 1 + n) k block) (sym (recorded-first m n block))
    ∙ ap (λ (c : ℕ). recorded m (suc n) block ++ recorded c k block) past

-- one row more
pub recorded-more : (m n : ℕ) (block : List (List ℕ)) → recorded m (n + 1) block ≡ recorded m n block ++ line block (row_at (m + n))
recorded-more m n block =
    recorded-add m n 1 block
    ∙ ap (λ (l : List ℕ). recorded m n block ++ l)
    (recorded-first (m + n) 0 block ∙ ap (λ (l : List ℕ). line block (row_at (m + n)) ++ l) (recorded-none (m + n + 1) block) ∙ append-nil (line block (row_at (m + n))))

-- a recorded row that is put after those before it: `text` has so many of them as yet, each of the same width
pub recorded-put : (at width next m : ℕ) (text part : List ℕ) (rows : List (List ℕ)) → at ≤ length text → next ≡ at + length part → part ≡ line rows (row_at m)
    → take at text ≡ recorded 0 m rows → take next (part_written at width text part) ≡ recorded 0 (m + 1) rows
recorded-put at width next m text part rows inside follows is before =
    let from : 0 + m ≡ m = omega arith in
    take-put_mid at width text part next follows inside
    ∙ ap (λ (l : List ℕ). l ++ part) before
    ∙ ap (λ (l : List ℕ). recorded 0 m rows ++ l) (is ∙ ap (λ (k : ℕ). line rows (row_at k)) (sym from))
    ∙ sym (recorded-more 0 m rows)

-- a fact about a failed call that doesn't depend on its error
pub on_err : {T E : Type 0} (r : Result T E) (P : Type 0) → P → OnErr r P
on_err (Ok x) P holds = tt
on_err (Err e) P holds = holds
