-- The laws of the join of several captures.
use Rattle.std.specs.Prelude.{◌≡◌, ◌≤◌, ◌↔◌, ℕ, Bool, List, ◌∷◌, ◌++◌, length, All}
use Rattle.std.specs.List.{Contains}
use Rattle.coding.specs.Words.{cost}
use Rattle.coding.specs.Product.{line}
use Rattle.dvd_capture.specs.Answers.{marks_line}
use Rattle.dvd_capture.specs.Captured.{captured_marks, captured_rows}
use Rattle.dvd_capture.specs.declared.form.Form.TheVariants.{Marked}
use Rattle.dvd_merge.specs.Agreeing.{IsTableOf}
use Rattle.dvd_merge.specs.Join.{Table, joined, joined_marks, joined_rows, seen_table}
use Rattle.dvd_merge.specs.MarkedText.{marked_text}

-- captures in another order, or some of them more than once, have the same join
abbrev pub CaptureOrderDoesNotCount : Type 0
CaptureOrderDoesNotCount = (a b : List Table) → ((table : Table) → Contains a table ↔ Contains b table) → joined a ≡ joined b

-- Where all captures but one have the byte of the block at each place that they have seen, each row of the join costs
-- at most what it costs in the one.
abbrev pub CostDoesNotGrow : Type 0
CostDoesNotGrow =
    (block rows : List (List ℕ)) (marks : List (List Bool)) (before after : List Table)
    → All (IsTableOf block) before → All (IsTableOf block) after → (i : ℕ)
    → cost (line block i) (line (joined_rows (joined (before ++ seen_table rows marks ∷ after))) i)
    (marks_line (joined_marks (joined (before ++ seen_table rows marks ∷ after))) i)
    ≤ cost (line block i) (line rows i) (marks_line marks i)

-- The text of a table, captured in the marked form, has the rows and the marks of the table.
abbrev pub MarkedTextIsCaptured : Type 0
MarkedTextIsCaptured =
    (table : Table) → length table ≡ 208 → All (λ row. length row ≡ 182) table
    → (captured_rows Marked (marked_text table) ≡ joined_rows table) × (captured_marks Marked (marked_text table) ≡ joined_marks table)
