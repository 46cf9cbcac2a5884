-- The marks of one recorded row of a capture, and the 23 bytes that the marked form has for them.
use Rattle.std.specs.Prelude.{ℕ, ◌+◌, Bool, not, List, map}
use Rattle.std.specs.List.{range_with_len}
use Rattle.cap_map.specs.Spans.{is_rescued}
use Rattle.cap_map.specs.declared.span.Span.{Span}
use Rattle.dvd_capture.specs.MarkBits.{mark_bytes}

-- Place j of the row whose first byte has this number is marked: its byte isn't rescued.
abbrev pub is_marked : List Span → ℕ → ℕ → Bool
is_marked spans start j = not (is_rescued spans (start + j))

-- the mark bytes of this row
unfoldable pub row_mark_bytes : List Span → ℕ → List ℕ
row_mark_bytes spans start = mark_bytes (map (is_marked spans start) (range_with_len 0 182))
