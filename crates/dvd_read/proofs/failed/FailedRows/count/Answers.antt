-- The proof of `count` in src/failed.rt.
use Rattle.std.proofs.Common.{arith}
use Rattle.dvd_read.proofs.NotedRows.{marked-most}
use Rattle.dvd_read.proofs.failed.FailedRows.count.Goals as goal

pub returns-clause-within : goal.returns-clause-within
returns-clause-within c = (let failed = c.args.self.now in omega (arith, failed.counted, failed.size, marked-most failed.marks))
