-- The proof of `first_missing` in src/columns.rt.
use Rattle.std.proofs.Common.{sym, arith}
use Rattle.dvd_read.proofs.ColumnAnswers.{missing_first, missing_none}
use Rattle.dvd_read.proofs.columns.first_missing.Goals as goal

pub returns-then-not-column : goal.returns-then-not-column
returns-then-not-column c =
    sym (missing_first c.args.columns.now c.loop-j.j c.loop-j-test.true c.loop-j.invariant c.if-not-column.true)

pub returns : goal.returns
returns c = sym (missing_none c.args.columns.now (λ k d within. c.loop-j.invariant k d (omega arith)))
