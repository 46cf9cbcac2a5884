-- Mark bits read back.
use Rattle.std.proofs.Common.{◌≡◌, ◌∙◌, ◌<◌, ℕ, Bool, false, List, map, get_or, sym, ap, arith}
use Rattle.std.specs.List.{range_with_len}
use Rattle.std.proofs.lemmas.List.{length-map}
use Rattle.std.proofs.lemmas.List.FromFn.{get_or-map-range_with_len, length-range_with_len}
use Rattle.cap_map.specs.declared.span.Span.{Span}
use Rattle.cap_mark.specs.Marks.{is_marked, row_mark_bytes}
use Rattle.dvd_capture.specs.MarkBits.{mark_at, mark_bytes}
use Rattle.dvd_capture.proofs.MarkLists.{mark-marks_of}
use Rattle.dvd_capture.proofs.PackedMarks.{marks-back}

-- mark j of a row's mark bytes is what the map says of its byte j
pub read_back : (spans : List Span) (start j : ℕ) → j < 182 → mark_at (row_mark_bytes spans start) j ≡ is_marked spans start j
unfolding row_mark_bytes
read_back spans start j below =
    sym (mark-marks_of (mark_bytes marks) j below)
    ∙ ap (λ (l : List Bool). get_or l j false) (marks-back marks (length-map (range_with_len 0 182) (is_marked spans start) ∙ length-range_with_len 0 182))
    ∙ get_or-map-range_with_len (is_marked spans start) 0 182 j j false below (omega arith)
  where
    marks : List Bool
    marks = map (is_marked spans start) (range_with_len 0 182)
