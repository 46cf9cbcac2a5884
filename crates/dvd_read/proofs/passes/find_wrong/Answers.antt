-- The proof of `find_wrong` in src/passes.rt.
use Rattle.std.proofs.Common.{sym, arith}
use Rattle.coding.specs.TwoPass.{from_columns}
use Rattle.dvd_capture.proofs.Columns.{length-from_columns}
use Rattle.dvd_read.specs.Inner.Found.{words_of_columns}
use Rattle.dvd_read.proofs.ColumnAnswers.{wrong_none}
use Rattle.dvd_read.proofs.passes.find_wrong.Goals as goal

pub returns-then-are_kept : goal.returns-then-are_kept
returns-then-are_kept c =
    let block = from_columns (words_of_columns c.args.columns.now) in
    sym (wrong_none block (λ i within.
    c.requires.right c.if-are_kept.true i (omega (arith, within, length-from_columns (words_of_columns c.args.columns.now)))))
