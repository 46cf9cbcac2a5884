-- A whole capture with its marks.
use Rattle.std.specs.Prelude.{◌≡◌, ℕ, zero, suc, ◌-◌, ◌*◌, ◌/◌, ◌%◌, ◌^◌, ◌<◌, List, [], ◌++◌, drop, length, take}
use Rattle.cap_map.specs.declared.span.Span.{Span}
use Rattle.cap_mark.specs.Frames.{marked_frame, mark_units}
use Rattle.dvd_loop.specs.Laws.{IsFaultless}
use Rattle.dvd_loop.specs.Machine.{IsOutcome, Outcome}
use Rattle.dvd_loop.specs.declared.ends.LoopEnd.TheVariants.{Short}

-- a number of recording frames with their marks, of bytes that begin with frame k
unfoldable pub marked_frames : List Span → ℕ → ℕ → List ℕ → List ℕ
marked_frames spans k zero bytes = []
marked_frames spans k (suc n) bytes = marked_frame spans k (take 2366 bytes) ++ marked_frames spans (suc k) n (drop 2366 bytes)

-- all whole recording frames of a capture
abbrev pub marked_capture : List Span → List ℕ → List ℕ
marked_capture spans bytes = marked_frames spans 0 (length bytes / 2366) bytes

-- The result for a capture where no stream fails. Its whole frames are written with their marks, it is read to its end,
-- and no line is reported. The end names what is left in a last frame that is cut.
pub record IsMarkedWhole (spans : List Span) (bytes : List ℕ) (outcome : Outcome) : Type 0 where
  pub writes : outcome.out ≡ marked_capture spans bytes
  pub reports : outcome.lines ≡ []
  pub reads : outcome.taken ≡ bytes
  pub ends : outcome.end ≡ Short (length bytes / 2366) (length bytes % 2366)

-- A capture of fewer frames than 32 bits count is marked whole.
abbrev pub MarksWhole : Type 0
MarksWhole = (spans : List Span) (bytes : List ℕ) (outcome : Outcome) → length bytes < 2366 * (2 ^ 32 - 1)
    → IsOutcome (mark_units spans) bytes outcome → IsFaultless outcome.end → IsMarkedWhole spans bytes outcome
