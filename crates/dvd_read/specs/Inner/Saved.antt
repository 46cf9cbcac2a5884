-- What is salvaged of the answers of the rows.
use Rattle.std.specs.Prelude.{ℕ, ◌*◌, Bool, List, [], count_by, drop, map, replicate, take, if◌then◌else◌, Some, None, is_none, is_some, unwrap_or}
use Rattle.std.specs.List.{list_any, range_with_len}
use Rattle.std.specs.declared.option.Option.{Option}
use Rattle.dvd_decoding.specs.Frames.{wanted_word}
use Rattle.dvd_decoding.specs.Salvage.{rescued}
use Rattle.dvd_frame.specs.Frame.{frame_cause, main_in}
use Rattle.dvd_layout.specs.Place.{rule_for}
use Rattle.dvd_layout.specs.declared.entry.BlockPlan.{BlockPlan}

-- the rows' answers as a block; a failed row has no bytes
abbrev pub answered_block : List (Option (List ℕ)) → List (List ℕ)
answered_block answers = map (λ row. unwrap_or row []) answers

-- whether one of the twelve rows of frame f failed
abbrev pub lacks_row : List (Option (List ℕ)) → ℕ → Bool
lacks_row answers f = list_any is_none (take 12 (drop (12 * f) answers))

-- the unscrambled Main Data of a frame that has no cause as frame f of an entry
abbrev pub main_if_right : BlockPlan → ℕ → List ℕ → Option (List ℕ)
main_if_right entry f frame =
    if is_none (frame_cause frame (wanted_word entry f) (rule_for entry.content f)) then Some (main_in frame (rule_for entry.content f)) else None

-- the sixteen sectors: the Main Data of a salvaged frame, zeros for one that is lost
abbrev pub sectors_saved : List (Option (List ℕ)) → BlockPlan → List (List ℕ)
sectors_saved answers entry = map (λ f. unwrap_or (rescued answers entry f) (replicate 2048 0)) (range_with_len 0 16)

-- how many of the sixteen frames are salvaged
abbrev pub frames_saved : List (Option (List ℕ)) → BlockPlan → ℕ
frames_saved answers entry = count_by (λ f. is_some (rescued answers entry f)) (range_with_len 0 16)
