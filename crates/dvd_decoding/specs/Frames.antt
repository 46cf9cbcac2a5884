-- The sixteen data frames of a block, and why they are refused (ECMA-267, clauses 16 to 18).
use Rattle.std.specs.Prelude.{ℕ, ◌+◌, ◌*◌, false, List, take, map, slice_get}
use Rattle.std.specs.List.{filter_map, flat_map, range_with_len}
use Rattle.std.specs.Option.{option_map}
use Rattle.std.specs.declared.option.Option.{Option}
use Rattle.dvd_frame.specs.Id.{id_word}
use Rattle.dvd_frame.specs.Frame.{frame_cause, main_in}
use Rattle.dvd_frame.specs.declared.reading.FrameCause.{FrameCause}
use Rattle.dvd_frame.specs.declared.reading.FrameCause.TheVariants as frames
use Rattle.coding.specs.Product.{line}
use Rattle.dvd_layout.specs.declared.entry.BlockPlan.{BlockPlan}
use Rattle.dvd_layout.specs.Place.{rule_for}
use Rattle.dvd_decoding.specs.declared.cause.Cause.{Cause}
use Rattle.dvd_decoding.specs.declared.cause.Cause.TheVariants.{Ied, Address, Edc}

-- frame f: places 0 to 171 of twelve rows, one after the other
unfoldable pub frame_of : List (List ℕ) → ℕ → List ℕ
frame_of block f = flat_map (λ q. take 172 (line block (12 * f + q))) (range_with_len 0 12)

-- the ID word of frame f of a plan's entry; that the disk has two layers is not looked at
abbrev pub wanted_word : BlockPlan → ℕ → ℕ
wanted_word entry f = id_word entry.area entry.layer false (entry.first + f)

-- the cause of a block whose frame f has this cause
abbrev pub cause_in : ℕ → FrameCause → Cause
cause_in f frames.Ied = Ied f
cause_in f (frames.Address found) = Address f found
cause_in f frames.Edc = Edc f

-- the cause of frame f, or none
abbrev pub fault_at : List (List ℕ) → BlockPlan → ℕ → Option Cause
fault_at block entry f = option_map (cause_in f) (frame_cause (frame_of block f) (wanted_word entry f) (rule_for entry.content f))

-- the first of the causes of the sixteen frames
unfoldable pub frames_cause : List (List ℕ) → BlockPlan → Option Cause
frames_cause block entry = slice_get (filter_map (fault_at block entry) (range_with_len 0 16)) 0

-- the unscrambled Main Data of frame f
abbrev pub main_at : List (List ℕ) → BlockPlan → ℕ → List ℕ
main_at block entry f = main_in (frame_of block f) (rule_for entry.content f)

-- the sixteen sectors of a block
unfoldable pub main_data : List (List ℕ) → BlockPlan → List (List ℕ)
main_data block entry = map (main_at block entry) (range_with_len 0 16)
