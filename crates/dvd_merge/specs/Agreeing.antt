-- Ours: captures that received no wrong byte.
use Rattle.std.specs.Prelude.{◌≡◌, ◌⊎◌, ℕ, List}
use Rattle.coding.specs.Product.{place}
use Rattle.dvd_merge.specs.Join.{Table, known_at}
use Rattle.dvd_merge.specs.declared.place.Place.TheVariants.{Unseen, Value}

-- Ours: each place of the table that is seen has the byte of this block
abbrev pub IsTableOf : List (List ℕ) → Table → Type 0
IsTableOf block table = (i j : ℕ) → (known_at table i j ≡ Unseen) ⊎ (known_at table i j ≡ Value (place block i j))
