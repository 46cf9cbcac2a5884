-- Columns of a block: their bytes, and words that agree with one place by place or are encoded in it; the length of
-- one is in rs_lanes.
use Rattle.std.proofs.Common.{◌≡◌, ℕ, ◌<◌, ◌≤◌, List, ◌++◌, length, get_or, take, drop, sym, ◌∙◌, ap, subst, arith}
use Rattle.std.proofs.lemmas.List.{get_or-take, length-take, take_at, take-append-drop}
use Rattle.std.proofs.lemmas.Grind.{same_number_lists}
use Rattle.coding.specs.Words.{IsCodeword, IsEncoded}
pub use Rattle.rs_lanes.proofs.ColumnLemmas.{length-column, get_or-column}
use Rattle.coding.specs.Product.{place, column}

-- bytes that agree with a column place by place are its upper end
pub upper_end : (block : List (List ℕ)) (j n : ℕ) (top : List ℕ) → length top ≡ n → n ≤ length block
    → ((i : ℕ) → i < length top → get_or top i 0 ≡ place block i j) → top ≡ take n (column block j)
upper_end block j n top size within each =
    same_number_lists top (take n (column block j))
    (omega (arith, length-take n (column block j), length-column block j))
    (λ i below. each i below ∙ sym (get_or-take n (column block j) i 0 (omega arith) ∙ get_or-column block j i))

-- what an encoder leaves of a column: its upper end, and the parity
pub column_encoded : (prefix top past word : List ℕ) → length top ≡ 192 → top ≡ prefix → IsEncoded 208 16 (take 192 (top ++ past)) word
    → IsCodeword 208 16 (prefix ++ drop 192 word)
column_encoded prefix top past word size is encoded =
    let begins : take 192 word ≡ prefix = encoded.begins ∙ take_at top past 192 size ∙ is in
    subst (IsCodeword 208 16) (sym (take-append-drop 192 word) ∙ ap (λ (l : List ℕ). l ++ drop 192 word) begins) encoded.codeword
