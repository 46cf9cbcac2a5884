-- Which of a block's sixteen data frames are right by themselves, and what is saved of them, also where the block is
-- refused (ECMA-267, clauses 16 to 18).
use Rattle.std.specs.Prelude.{ℕ, ◌*◌, Bool, List, [], count_by, drop, map, replicate, take, if◌then◌else◌, Some, None, is_none, is_some, unwrap_or}
use Rattle.std.specs.List.{list_any, range_with_len}
use Rattle.std.specs.Option.{option_and_then}
use Rattle.std.specs.declared.option.Option.{Option}
use Rattle.coding.specs.TwoPass.{answers_of}
use Rattle.dvd_frame.specs.Frame.{frame_cause, main_in}
use Rattle.dvd_layout.specs.Place.{rule_for}
use Rattle.dvd_layout.specs.declared.entry.BlockPlan.{BlockPlan}
use Rattle.dvd_decoding.specs.Causes.{two_pass_cause}
use Rattle.coding.specs.Found.{block_found}
use Rattle.dvd_decoding.specs.Frames.{frame_of, wanted_word}

-- The candidate of frame f: frame f of the block that two passes find. Where they refuse it, it is that of the rows'
-- answers, if all twelve rows have one.
unfoldable pub candidate : List (Option (List ℕ)) → ℕ → Option (List ℕ)
candidate answers f =
    if is_none (two_pass_cause answers) then Some (frame_of (block_found answers) f)
    else if list_any is_none (take 12 (drop (12 * f) answers)) then None
    else Some (frame_of (map (λ row. unwrap_or row []) answers) f)

-- Frame f is salvaged where it has a candidate without a cause, and this is its unscrambled Main Data.
unfoldable pub rescued : List (Option (List ℕ)) → BlockPlan → ℕ → Option (List ℕ)
rescued answers entry f =
    option_and_then
    (λ frame. if is_none (frame_cause frame (wanted_word entry f) (rule_for entry.content f)) then Some (main_in frame (rule_for entry.content f)) else None)
    (candidate answers f)

-- The sixteen sectors that are salvaged of what was received: the Main Data of a salvaged frame, zeros for one that is
-- lost.
unfoldable pub block_out : List (List ℕ) → List (List Bool) → BlockPlan → List (List ℕ)
block_out rows marks entry = map (λ f. unwrap_or (rescued (answers_of rows marks) entry f) (replicate 2048 0)) (range_with_len 0 16)

-- how many of the sixteen frames are salvaged, those of padding too
unfoldable pub saved_in : List (List ℕ) → List (List Bool) → BlockPlan → ℕ
saved_in rows marks entry = count_by (λ f. is_some (rescued (answers_of rows marks) entry f)) (range_with_len 0 16)
