-- What each iteration of the loop in `join_row` keeps.
use Rattle.std.proofs.Common.{◌*◌}
use Rattle.dvd_merge.proofs.Rows.{AreJoinedBelow}
use Rattle.dvd_merge.proofs.row.join_row.Given as goal

abbrev pub invariant-loop-group : goal.invariant-loop-group
invariant-loop-group l = AreJoinedBelow l.fn.values l.fn.codes l.values l.codes l.bytes l.marks (32 * l.group)
