-- What a block was made of, and what was received of it.
use Rattle.std.specs.Prelude.{◌≡◌, ℕ, ◌+◌, ◌<◌, Bool, List, All, length}
use Rattle.coding.specs.Product.{line}
use Rattle.dvd_frame.specs.Id.{id_word}
use Rattle.dvd_frame.specs.Frame.{data_frame}
use Rattle.dvd_layout.specs.declared.entry.BlockPlan.{BlockPlan}
use Rattle.dvd_layout.specs.Place.{rule_for}

-- These are the sixteen data frames of an entry of a plan, with this CPR_MAI and these Main Data.
pub record IsMadeOf (entry : BlockPlan) (dim : Bool) (cpr : List ℕ) (main : ℕ → List ℕ) (frames : List (List ℕ)) : Type 0 where
  pub cpr_size : length cpr ≡ 6
  pub sizes : (f : ℕ) → f < 16 → length (main f) ≡ 2048
  pub are : (f : ℕ) → f < 16 → line frames f ≡ data_frame (id_word entry.area entry.layer dim (entry.first + f)) cpr (rule_for entry.content f) (main f)

-- a received block: 208 rows of 182 bytes, with a mark for each
pub record IsReceived (received : List (List ℕ)) (marks : List (List Bool)) : Type 0 where
  pub height : length received ≡ 208
  pub marks_height : length marks ≡ 208
  pub widths : All (λ row. length row ≡ 182) received
  pub marks_widths : All (λ row. length row ≡ 182) marks
