-- The home of a captured recording frame: the block of the data zone, and the frame of it, that its first row names.
-- The definitions look through all frames of the zone; the code computes the one place from the sector number.
use Rattle.std.specs.Prelude.{ℕ, ◌+◌, ◌/◌, ◌%◌, Bool, List, map, take, position, if◌then◌else◌, Some, None}
use Rattle.std.specs.List.{flat_map, range_with_len}
use Rattle.std.specs.Option.{option_and_then}
use Rattle.std.specs.declared.option.Option.{Option}
use Rattle.coding.specs.Nearest.{near_of}
use Rattle.dvd_frame.specs.Frame.{found_word}
use Rattle.dvd_frame.specs.Id.{has_check, id_word, is_same_place}
use Rattle.dvd_layout.specs.Lengths.{has_two_layers}
use Rattle.dvd_layout.specs.Plan.{plan_of}
use Rattle.dvd_layout.specs.declared.entry.BlockPlan.{BlockPlan}
use Rattle.dvd_layout.specs.declared.layout.Layout.{Layout}
use Rattle.dvd_layout.specs.declared.layout.Zones.TheVariants.{DataOnly}
use Rattle.coding.specs.Product.{line}
use Rattle.dvd_capture.specs.Answers.{marks_line}
use Rattle.dvd_assemble.specs.Frames.{Frame}

-- ECMA-267, 16.1: the ID words of the sixteen frames of a block
abbrev pub block_words : Layout → BlockPlan → List ℕ
block_words layout entry = map (λ f. id_word entry.area entry.layer (has_two_layers layout.shape) (entry.first + f)) (range_with_len 0 16)

-- Ours: the ID words of all frames of the data zone, in the order of a stream
unfoldable pub id_words : Layout → List ℕ
id_words layout = flat_map (block_words layout) (plan_of layout DataOnly)

-- Ours: the ID word of a row, if its first six bytes are right by the IED (ECMA-267, 16.2)
abbrev pub checked_word : List ℕ → Option ℕ
checked_word row = if has_check (take 6 row) then Some (found_word row) else None

-- Ours: the ID word of the codeword near a received first row
unfoldable pub id_word_in : List ℕ → List Bool → Option ℕ
id_word_in row marks = option_and_then checked_word (near_of 182 10 row marks)

-- Ours: the first frame of the data zone, by its number in a stream, whose place is that of this ID word
unfoldable pub home_in : Layout → ℕ → Option ℕ
home_in layout word = position (is_same_place word) (id_words layout)

-- Ours: the home of a captured frame, by the number that the frame has in a stream of the data zone
unfoldable pub home : Layout → Frame → Option ℕ
home layout frame = option_and_then (home_in layout) (id_word_in (line frame.rows 0) (marks_line frame.marks 0))

-- Ours: the block of the frame of this number, and which of its sixteen frames it is
abbrev pub block_and_frame : ℕ → ℕ × ℕ
block_and_frame n = (n / 16, n % 16)
