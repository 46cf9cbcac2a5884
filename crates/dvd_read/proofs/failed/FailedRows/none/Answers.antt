-- The proof of `none` in src/failed.rt.
use Rattle.std.proofs.Common.{refl, sym}
use Rattle.dvd_read.proofs.Standing.{marked-clear}
use Rattle.dvd_read.proofs.failed.FailedRows.none.Goals as goal

pub invariant_of-result : goal.invariant_of-result
invariant_of-result c = record { size = refl; counted = sym (marked-clear 208) }
