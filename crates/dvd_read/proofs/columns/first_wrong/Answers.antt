-- The proof of `first_wrong` in src/columns.rt.
use Rattle.std.proofs.Common.{◌≡◌, ◌-◌, true, sym, arith}
use Rattle.coding.specs.Nearest.{vanishes_at_all}
use Rattle.coding.specs.Product.{line}
use Rattle.coding.specs.TwoPass.{from_columns}
use Rattle.dvd_capture.proofs.Columns.{length-from_columns}
use Rattle.dvd_read.specs.Inner.Found.{words_of_columns}
use Rattle.dvd_read.proofs.ColumnAnswers.{rows_more, wrong_first, wrong_none}
use Rattle.dvd_read.proofs.columns.first_wrong.Goals as goal

pub returns-in-Some : goal.returns-in-Some
returns-in-Some c =
    let block = from_columns (words_of_columns c.args.columns.now) in
    let top = c.min-top.result in
    let i = c.in-Some.i in
    let first = c.in-Some.ensures in
    let from_top = first.0 in
    let below_end = first.1 in
    sym (wrong_first block i (omega (arith, length-from_columns (words_of_columns c.args.columns.now), below_end))
    (λ k below.
    rows_more (λ m. vanishes_at_all 10 (line block m) ≡ true) top (i - top)
    (λ m under. c.loop-group.invariant m (omega arith) (omega arith)) first.2 k (omega (arith, from_top, below)))
    first.3)

pub loop-group-preserved : goal.loop-group-preserved
loop-group-preserved c = λ k below within.
    let block = from_columns (words_of_columns c.args.columns.now) in
    rows_more (λ m. vanishes_at_all 10 (line block m) ≡ true) c.min-top.result 32
    (λ m under. c.loop-group.invariant m (omega arith) (omega arith)) c.in_default.ensures k (omega arith)

pub returns : goal.returns
returns c =
    let block = from_columns (words_of_columns c.args.columns.now) in
    sym (wrong_none block (λ k within.
    let below = length-from_columns (words_of_columns c.args.columns.now) in
    c.loop-group.invariant k (omega (arith, below)) (omega (arith, below))))
