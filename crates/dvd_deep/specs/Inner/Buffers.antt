-- Ours: what the contracts see of the rows and marks of a state.
use Rattle.std.specs.Prelude.{ℕ, List}
use Rattle.dvd_capture.specs.Parts.{marks_of_rows}
use Rattle.dvd_capture.specs.declared.row_marks.RowMarks.{RowMarks}
use Rattle.dvd_deep.specs.Rounds.{State, state_in}

-- the state of these rows and their marks
abbrev pub buffered_state : List (List ℕ) → List RowMarks → State
buffered_state rows marks = state_in rows (marks_of_rows marks)
