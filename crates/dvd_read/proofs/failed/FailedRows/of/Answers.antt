-- The proof of `of` in src/failed.rt.
use Rattle.std.proofs.Common.{arith}
use Rattle.dvd_read.proofs.NotedRows.{none-noted}
use Rattle.dvd_read.proofs.RowAnswers.{flags-all}
use Rattle.dvd_read.proofs.failed.FailedRows.of.Goals as goal

pub loop-i-init : goal.loop-i-init
loop-i-init c = none-noted c.args.answers.now c.none-failed.result.marks c.none-failed.ensures

pub returns : goal.returns
returns c =
    let failed = c.loop-i.failed in
    flags-all c.args.answers.now failed.marks c.requires failed.size (λ k d below. c.loop-i.invariant.before k d (omega (arith, c.loop-i-test.false)))
