-- What each iteration of the loop in `answer_rows` keeps.
use Rattle.std.proofs.Common.{◌*◌}
use Rattle.dvd_capture.specs.Parts.{marks_of_rows}
use Rattle.dvd_deep.specs.Inner.Buffers.{buffered_state}
use Rattle.dvd_deep.specs.Inner.Steps.{IsStepped}
use Rattle.dvd_deep.proofs.row_step.answer_rows.Given as goal

-- the rows of the groups that are done have had their step
abbrev pub invariant-loop-group : goal.invariant-loop-group
invariant-loop-group l = IsStepped (buffered_state l.fn.rows l.fn.marks) l.rows (marks_of_rows l.marks) l.failed.marks (32 * l.group)
