-- The headline: what a run of `mark` does, for its map, for the bytes of the capture and for faults of its streams.
pub mod Lines
pub mod Opening
pub mod Statuses
use Rattle.std.specs.Prelude.{◌≡◌, ◌≢◌, ◌⊎◌, ◌-◌, ◌*◌, ◌/◌, ◌%◌, ◌^◌, ◌<◌, List, length, ℕ, Some}
use Rattle.cap_map.specs.declared.span.Span.{Span}
use Rattle.cap_mark.specs.Capture.{marked_capture}
use Rattle.cap_mark.specs.Frames.{mark_units}
use Rattle.cap_top.specs.Mark.Lines.{closing_line, refusal_line}
use Rattle.cap_top.specs.Mark.Opening.{IsMapRefused, OpensMap}
use Rattle.cap_top.specs.Mark.Statuses.{refusal_status, status_of}
use Rattle.cap_top.specs.Closing.{EndsWith}
use Rattle.cap_top.specs.declared.mark.opening.MapRefusal.{MapRefusal}
use Rattle.cap_top.specs.declared.status.Status.{Status}
use Rattle.dvd_loop.specs.Laws.{IsFaultless}
use Rattle.dvd_loop.specs.Machine.{IsClosed, IsOutcome}
use Rattle.dvd_loop.specs.Streams.{HaveReached, HaveCauses, HaveMoved, Streams}
use Rattle.dvd_loop.specs.declared.ends.LoopEnd.{LoopEnd}
use Rattle.dvd_loop.specs.declared.ends.LoopEnd.TheVariants as ends
use Rattle.dvd_ports.specs.Seen.{Seen}

-- how the loop over these bytes ends: within a frame, none of whose bytes may have come
abbrev pub end_of_bytes : List ℕ → LoopEnd
end_of_bytes bytes = ends.Short (length bytes / 2366) (length bytes % 2366)

-- Where the bytes of the source are known and no stream failed: all whole frames of the capture were written with their
-- marks, and it was read to its end. Line and status are those of what was left in a last frame that is cut, or of
-- none.
abbrev pub MarksAll : List Span → Streams → Streams → LoopEnd → Type 0
MarksAll spans old new end = (bytes : List ℕ) → old.source.bytes.left ≡ Some bytes → IsFaultless end → length bytes < 2366 * (2 ^ 32 - 1)
    → (end ≡ end_of_bytes bytes) × HaveMoved old new bytes (marked_capture spans bytes) (closing_line (end_of_bytes bytes))

-- The streams have reached a run by these spans over some bytes, those of the source where they are known. Each
-- recording frame that came is written with the marks of its rows, and then the closing line. `within` is how the loop
-- ended, `end` the same, or ReportFault where that line failed. A fault is one failed call of its stream, and its last.
pub record HasMarked (spans : List Span) (old new : Streams) (result : Status) : Type 0 where
  pub within : LoopEnd
  pub end : LoopEnd
  pub comes : HaveReached (λ bytes. IsClosed closing_line (IsOutcome (mark_units spans) bytes) within) old new end
  pub same_end : end ≢ ends.ReportFault → end ≡ within
  pub causes : HaveCauses within end old new
  pub is_status : result ≡ status_of end
  -- this follows
  pub all : MarksAll spans old new end

-- The map gives no spans, and the streams except the report are as they were.
pub record HasRefused (good : List ℕ) (old_map new_map : Seen) (Untouched : Type 0) (old new : Seen) (result : Status) : Type 0 where
  pub refusal : MapRefusal
  pub is_refused : IsMapRefused good old_map new_map refusal
  pub untouched : Untouched
  pub reported : EndsWith (refusal_status refusal) (refusal_line refusal) old new result

-- The map is read to its end, and the capture is marked by its spans.
pub record HasRun (good : List ℕ) (old_map new_map : Seen) (old new : Streams) (result : Status) : Type 0 where
  pub spans : List Span
  pub opens : OpensMap good old_map new_map spans
  pub marks : HasMarked spans old new result

-- THE HEADLINE, of the statuses that are trusted, of the map and of the streams before and after, and of the status.
abbrev pub Headline : List ℕ → Seen → Seen → Type 0 → Streams → Streams → Status → Type 0
Headline good old_map new_map Untouched old new result =
    HasRun good old_map new_map old new result ⊎ HasRefused good old_map new_map Untouched old.report new.report result
