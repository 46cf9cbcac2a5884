-- What each iteration of the loop in `answer_columns` keeps.
use Rattle.std.proofs.Common.{◌*◌}
use Rattle.dvd_deep.specs.Inner.Buffers.{buffered_state}
use Rattle.dvd_deep.specs.Inner.Steps.{AreStepped, AreTold}
use Rattle.dvd_deep.proofs.column_step.answer_columns.Given as goal

-- the columns of the groups that are done have had their step
abbrev pub invariant-loop-group : goal.invariant-loop-group
invariant-loop-group l = record {
  part : AreStepped l.failed (buffered_state l.fn.rows l.fn.marks) l.rows (32 * l.group);
  told : AreTold l.failed (buffered_state l.fn.rows l.fn.marks) l.answered (32 * l.group);
}
