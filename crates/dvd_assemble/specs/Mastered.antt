-- Frames that were captured of mastered blocks.
use Rattle.std.specs.Prelude.{◌≡◌, ℕ, ◌+◌, ◌*◌, ◌<◌, ◌≤◌, List, ◌++◌, length, take, slice_index}
use Rattle.coding.specs.Filling.{AgreeUnmarked, marked}
use Rattle.coding.specs.Product.{IsProduct, line}
use Rattle.coding.specs.Recording.{row_at}
use Rattle.dvd_frame.specs.Id.{ied_of, word_bytes}
use Rattle.dvd_layout.specs.Plan.{plan_of}
use Rattle.dvd_layout.specs.declared.layout.Layout.{Layout}
use Rattle.dvd_layout.specs.declared.layout.Zones.TheVariants.{DataOnly}
use Rattle.dvd_capture.specs.Answers.{marks_line}
use Rattle.dvd_assemble.specs.Frames.{Frame}
use Rattle.dvd_assemble.specs.Home.{id_words}

-- Ours: the ID word of frame f of data block k
abbrev pub word_for : Layout → ℕ → ℕ → ℕ
word_for layout k f = slice_index (id_words layout) (16 * k + f)

-- ECMA-267, 16.1, 16.2 and 18: a product codeword in which row 12f begins with the ID of frame f of data block k, and
-- its IED
pub record NamesItsFrames (layout : Layout) (k : ℕ) (block : List (List ℕ)) : Type 0 where
  pub product : IsProduct block
  pub named : (f : ℕ) → f < 16 → take 6 (line block (12 * f)) ≡ word_bytes (word_for layout k f) ++ ied_of (word_for layout k f)

-- ECMA-267, 19: a frame that was captured of recording frame f of this block: thirteen rows that have its bytes at all
-- places that aren't marked, and at most ten marks in the first row
pub record IsCaptureOf (f : ℕ) (block : List (List ℕ)) (frame : Frame) : Type 0 where
  pub size : (q : ℕ) → q < 13 → (length (line frame.rows q) ≡ 182) × (length (marks_line frame.marks q) ≡ 182)
  pub agrees : (q : ℕ) → q < 13 → AgreeUnmarked (marks_line frame.marks q) (line frame.rows q) (line block (row_at (13 * f + q)))
  pub few : marked (marks_line frame.marks 0) ≤ 10

-- Ours: a frame that was captured of one of the blocks of the data zone
abbrev pub IsCaptured : Layout → (ℕ → List (List ℕ)) → Frame → Type 0
IsCaptured layout blocks frame =
    (k f : ℕ) × (k < length (plan_of layout DataOnly)) × (f < 16) × IsCaptureOf f (blocks k) frame

-- Ours: these are the blocks of the data zone
abbrev pub AreNamed : Layout → (ℕ → List (List ℕ)) → Type 0
AreNamed layout blocks = (k : ℕ) → k < length (plan_of layout DataOnly) → NamesItsFrames layout k (blocks k)
