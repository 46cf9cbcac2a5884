-- The proof of `row_corrections` in src/passes.rt.
use Rattle.std.proofs.Common.{◌∙◌, sym}
use Rattle.dvd_read.proofs.Standing.{errors-counted}
use Rattle.dvd_read.proofs.passes.row_corrections.Goals as goal

pub returns-in-Some-clause-count : goal.returns-in-Some-clause-count
returns-in-Some-clause-count c = λ marks size said.
    c.from.ensures ∙ errors-counted c.args.received.now marks c.args.answer.now c.in-Some.fix (c.told-received ∙ sym size) c.in-Some.is c.if-fix-eq0.true said
