-- Rows that are part of something else: row_taken, the bytes of one of them.
use Rattle.std.proofs.Common.{◌≡◌, ℕ, ◌<◌, List, [], length, get_or, map, sym, ap, ◌∙◌}
use Rattle.std.proofs.lemmas.List.{get_or-map}
use Rattle.coding.specs.Rows.{line}

-- the bytes of the i-th of them are row i
pub row_taken : {A : Type 0} (word : A → List ℕ) (rows : List A) (i : ℕ) (item : A) (bytes : List ℕ)
    → i < length rows → item ≡ get_or rows i item → bytes ≡ word item → bytes ≡ line (map word rows) i
row_taken word rows i item bytes inside is same = same ∙ ap word is ∙ sym (get_or-map word rows i item [] inside)
