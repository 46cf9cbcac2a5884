-- The proof of `process` of `UnitCommand` for `Plain` in src/plain_command.rt.
use Rattle.std.proofs.Common.{rules}
use Rattle.dvd_loop.proofs.plain_command.PlainUnitCommand.process.Goals as goal

pub returns-clause-processed : goal.returns-clause-processed
returns-clause-processed g c = λ before number ready. search rules
