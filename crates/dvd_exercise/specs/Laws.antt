-- The laws of the damage.
use Rattle.std.specs.Prelude.{◌≡◌, ◌≢◌, ℕ, ◌<◌, All, Bool, false, List, length, replicate}
use Rattle.coding.specs.Product.{IsProduct}
use Rattle.coding.specs.TwoPass.{IsTwoPass}
use Rattle.coding.specs.Within.{IsWithin}
use Rattle.dvd_exercise.specs.Damage.{IsHurt, drawn_errors, error_place, damaged_row}

-- the damage to a block with no marks is within the bound of two-pass decoding
abbrev pub HurtIsWithin : Type 0
HurtIsWithin =
    (x : ℕ) (rows : List (List ℕ)) (marks : List (List Bool)) (hurt_rows : List (List ℕ)) (hurt_marks : List (List Bool))
    → length rows ≡ 208 → marks ≡ replicate 208 (replicate 182 false) → IsHurt x rows marks hurt_rows hurt_marks
    → IsWithin rows hurt_rows hurt_marks

-- So where the block's parity was right, it is the block that two-pass decoding determines.
abbrev pub HurtIsTwoPass : Type 0
HurtIsTwoPass =
    (x : ℕ) (block : List (List ℕ)) (marks : List (List Bool)) (hurt_rows : List (List ℕ)) (hurt_marks : List (List Bool))
    → IsProduct block → marks ≡ replicate 208 (replicate 182 false) → IsHurt x block marks hurt_rows hurt_marks
    → IsTwoPass hurt_rows hurt_marks block

-- one state damages a block in one way
abbrev pub HurtIsOnlyOne : Type 0
HurtIsOnlyOne =
    (x : ℕ) (rows : List (List ℕ)) (marks : List (List Bool)) (a b : List (List ℕ)) (a_marks b_marks : List (List Bool))
    → length rows ≡ 208 → IsHurt x rows marks a a_marks → IsHurt x rows marks b b_marks
    → (a ≡ b) × (a_marks ≡ b_marks)

-- and damages every block in some way
abbrev pub SomethingIsHurt : Type 0
SomethingIsHurt =
    (x : ℕ) (rows : List (List ℕ)) (marks : List (List Bool)) → length rows ≡ 208 → length marks ≡ 208 → All (λ row. length row ≡ 182) rows
    → (hurt_rows : List (List ℕ)) × (hurt_marks : List (List Bool)) × IsHurt x rows marks hurt_rows hurt_marks

-- no row of a block is bad or lost twice
abbrev pub RowsComeOnce : Type 0
RowsComeOnce = (start n t : ℕ) → n < 208 → t < n → damaged_row start t ≢ damaged_row start n

-- no place of a row has two errors
abbrev pub PlacesComeOnce : Type 0
PlacesComeOnce = (y n t : ℕ) → n < drawn_errors y → t < n → error_place y t ≢ error_place y n
