-- The proof of `entry` in src/table.rt.
use Rattle.std.proofs.Common.{arith}
use Rattle.cd_sector.proofs.Tables.{TABLES-entry}
use Rattle.cd_sector.proofs.table.entry.Goals as goal

pub returns : goal.returns
returns c = TABLES-entry c.args.later c.args.byte c.requires (omega arith)
