-- A marked text as its recorded rows are put one after the other.
use Rattle.std.proofs.Common.{◌≡◌, ℕ, ◌<◌, List, [], length, get_or, map, sym, ◌∙◌, ap, arith}
use Rattle.std.proofs.lemmas.List.{get_or-map}
use Rattle.coding.specs.Product.{line}
use Rattle.coding.specs.Recording.{row_at}
use Rattle.dvd_merge.specs.Join.{Table}
use Rattle.dvd_merge.specs.MarkedText.{marked_row}

-- which row a recorded row is
pub record_is : (table : Table) (m i : ℕ) (bytes : List ℕ) → length table ≡ 208 → i < 208 → i ≡ row_at m
    → bytes ≡ marked_row (get_or table i []) → bytes ≡ line (map marked_row table) (row_at m)
record_is table m i bytes height below is filled =
    filled ∙ sym (get_or-map marked_row table i [] [] (omega (arith, height, below))) ∙ ap (line (map marked_row table)) is
