-- What is answered to a captured block.
use Rattle.std.specs.Prelude.{ℕ, List}
use Rattle.std.specs.declared.option.Option.{Option}
use Rattle.std.specs.declared.option.Option.TheVariants.{Some, None}
use Rattle.coding.specs.Filling.{marked}
use Rattle.coding.specs.Found.{block_differences, block_found}
use Rattle.coding.specs.TwoPass.{answers_of, failed_of}
use Rattle.dvd_capture.specs.Captured.{captured_marks, captured_rows}
use Rattle.dvd_capture.specs.declared.form.Form.TheVariants.{Marked}
use Rattle.dvd_decoding.specs.Causes.{two_pass_cause}
use Rattle.dvd_decoding.specs.declared.cause.Cause.{Cause}
use Rattle.dvd_decoding.specs.declared.cause.Cause.TheVariants.{Rows, Column, Row, Ied, Address, Edc}
use Rattle.dvdecc_c.specs.declared.blocks.Report.{Report}
use Rattle.dvdecc_c.specs.declared.status.TheConstants.{OK, ROWS, COLUMN, ROW, IED, ID, EDC}

-- what the first pass answers to the rows of a captured block in the marked form
abbrev pub captured_answers : List ℕ → List (Option (List ℕ))
captured_answers bytes = answers_of (captured_rows Marked bytes) (captured_marks Marked bytes)

-- the status of a cause, and its number: of failed rows, of the column, of the row, or of the frame
abbrev pub cause_answer : Cause → ℕ × ℕ
cause_answer (Rows failed) = (ROWS, failed)
cause_answer (Column j) = (COLUMN, j)
cause_answer (Row i) = (ROW, i)
cause_answer (Ied f) = (IED, f)
cause_answer (Address f found) = (ID, f)
cause_answer (Edc f) = (EDC, f)

abbrev pub cause_status : Cause → ℕ
cause_status cause = (cause_answer cause).0

abbrev pub cause_number : Cause → ℕ
cause_number cause = (cause_answer cause).1

-- the status by the cause, if there is one
abbrev pub block_status : Option Cause → ℕ
block_status None = OK
block_status (Some cause) = cause_status cause

-- the block found, or what was in its place where there is a cause
abbrev pub block_or : Option Cause → List (List ℕ) → List (List ℕ) → List (List ℕ)
block_or None block before = block
block_or (Some cause) block before = before

-- the same by the rows' answers
abbrev pub block_by_answers : List (Option (List ℕ)) → List (List ℕ) → List (List ℕ)
block_by_answers answers before = block_or (two_pass_cause answers) (block_found answers) before

-- the report by the cause, if there is one
abbrev pub report_of : Option Cause → List (List ℕ) → List (Option (List ℕ)) → Report
report_of None received answers =
    record { corrected = block_differences received (block_found answers); failed_rows = marked (failed_of answers); number = 0 }
report_of (Some cause) received answers = record { corrected = 0; failed_rows = 0; number = cause_number cause }

-- the same by what was received and the rows' answers
abbrev pub with_report : List (List ℕ) → List (Option (List ℕ)) → Report
with_report received answers = report_of (two_pass_cause answers) received answers
