-- The proof of the law `rows_and_places_come_once` in src/laws.rt.
use Rattle.std.proofs.Common.{◌%◌, arith}
use Rattle.dvd_exercise.specs.Generator.{state_after}
use Rattle.dvd_exercise.proofs.Rows.{place-new, damaged_row-new}
use Rattle.dvd_exercise.proofs.laws.rows_and_places_come_once.Goals as goal

pub returns-clause-rows : goal.returns-clause-rows
returns-clause-rows c = damaged_row-new

pub returns-clause-places : goal.returns-clause-places
returns-clause-places c = λ y n t below before. place-new (state_after y 2 % 182) n t (omega arith) before
