-- A source over as many bytes as a block has in the marked form gives a whole block, and it is the block of these
-- bytes.
use Rattle.std.proofs.Common.{◌≡◌, ℕ, ◌<◌, Bool, false, List, [], ◌++◌, length, refl, sym, ◌∙◌, ap, arith}
use Rattle.std.proofs.lemmas.List.{append-nil, length-append, nil_from_length}
use Rattle.dvd_ports.specs.Memory.{SliceState, slice_seen}
use Rattle.dvd_capture.specs.Captured.{Captures, EndsAfter, captured_marks, captured_rows}
use Rattle.dvd_capture.specs.Fetching.{Fetches}
use Rattle.dvd_capture.specs.declared.capture.FetchAnswer.{FetchAnswer}
use Rattle.dvd_capture.specs.declared.capture.FetchAnswer.TheVariants.{Full, End, Short, ReadFault, BadMarks}
use Rattle.dvd_capture.specs.declared.form.Form.TheVariants.{Marked, Listed}

-- the source before its first read
abbrev pub source_of : List ℕ → SliceState
source_of bytes = record { given = []; left = bytes; ends = 0; stopped = false }

-- a list that was taken to its end is as long as what was taken
taken_length : (bytes taken left : List ℕ) → bytes ≡ taken ++ left → left ≡ [] → length bytes ≡ length taken
taken_length bytes taken left whole none = ap length (whole ∙ ap (λ (rest : List ℕ). taken ++ rest) none ∙ append-nil taken)

-- what ends after fewer bytes than a block has isn't a block
too_short : (bytes : List ℕ) (new : SliceState) (count : ℕ) → length bytes ≡ 42640 → count < 42640
    → EndsAfter Marked (slice_seen (source_of bytes)).bytes (slice_seen new).bytes count → ⊥
too_short bytes new count size few ends =
    omega (arith, size, few, ends.size, taken_length bytes ends.bytes new.left ends.taken.loses ends.at_end)

-- the answer of a source over a whole block
pub answer_is_full : (bytes : List ℕ) (new : SliceState) (rows : List (List ℕ)) (marks : List (List Bool)) (answer : FetchAnswer)
    → length bytes ≡ 42640 → Fetches Marked (slice_seen (source_of bytes)) (slice_seen new) rows marks answer → answer ≡ Full
answer_is_full bytes new rows marks Full size fetches = refl
answer_is_full bytes new rows marks End size fetches = absurd (too_short bytes new 0 size (omega arith) (fetches.end refl))
answer_is_full bytes new rows marks (Short count) size fetches =
    let ends : EndsAfter Marked (slice_seen (source_of bytes)).bytes (slice_seen new).bytes count = (fetches.short count refl).1 in
    absurd (too_short bytes new count size ends.fewer ends)
answer_is_full bytes new rows marks ReadFault size fetches =
    let rose : 0 ≡ 1 = fetches.counts.faults in
    absurd (omega (arith, rose))
answer_is_full bytes new rows marks (BadMarks at) size fetches =
    let listed : Marked ≡ Listed = (fetches.broken at refl).listed in
    absurd (cc listed)

-- the bytes that a whole block was read from are those of the source
pub captured_bytes : (bytes : List ℕ) (new : SliceState) (rows : List (List ℕ)) (marks : List (List Bool)) → length bytes ≡ 42640
    → (captures : Captures Marked (slice_seen (source_of bytes)).bytes (slice_seen new).bytes rows marks) → captures.bytes ≡ bytes
captured_bytes bytes new rows marks size captures =
    let whole : bytes ≡ captures.bytes ++ new.left = captures.taken.loses in
    let none : new.left ≡ [] =
    nil_from_length new.left (omega (arith, size, captures.size, ap length whole, length-append captures.bytes new.left)) in
    sym (whole ∙ ap (λ (rest : List ℕ). captures.bytes ++ rest) none ∙ append-nil captures.bytes)

-- so they have its rows
pub rows_captured : (bytes : List ℕ) (new : SliceState) (rows : List (List ℕ)) (marks : List (List Bool)) → length bytes ≡ 42640
    → Captures Marked (slice_seen (source_of bytes)).bytes (slice_seen new).bytes rows marks → rows ≡ captured_rows Marked bytes
rows_captured bytes new rows marks size captures =
    captures.rows_are ∙ ap (captured_rows Marked) (captured_bytes bytes new rows marks size captures)

-- and its marks
pub marks_captured : (bytes : List ℕ) (new : SliceState) (rows : List (List ℕ)) (marks : List (List Bool)) → length bytes ≡ 42640
    → Captures Marked (slice_seen (source_of bytes)).bytes (slice_seen new).bytes rows marks → marks ≡ captured_marks Marked bytes
marks_captured bytes new rows marks size captures =
    captures.marks_are ∙ ap (captured_marks Marked) (captured_bytes bytes new rows marks size captures)
