-- The proof of `count_corrections` in src/passes.rt.
use Rattle.std.proofs.Common.{◌≡◌, ◌∙◌, ℕ, List, [], None, ap, get_or, length, slice_index, take, sym, arith}
use Rattle.std.proofs.lemmas.Grind.{same_number_lists}
use Rattle.std.proofs.lemmas.List.{length-map, take_all}
use Rattle.coding.specs.Product.{line}
use Rattle.dvd_capture.specs.declared.parts.AnswerRow.{AnswerRow}
use Rattle.dvd_capture.specs.declared.parts.ColumnAnswer.{ColumnAnswer}
use Rattle.coding.specs.Distance.{distance}
use Rattle.coding.specs.Found.{block_differences}
use Rattle.dvd_capture.proofs.Columns.{from_columns-line, length-from_columns}
use Rattle.dvd_capture.proofs.WorkParts.{rows-height}
use Rattle.dvd_capture.specs.Parts.{column_answers}
use Rattle.dvd_capture.specs.Works.{answers_of_work, block_of, rows_of}
use Rattle.dvd_read.specs.Inner.Found.{words_of_columns}
use Rattle.dvd_read.proofs.Differences.{block_differences-none, block_differences-next}
use Rattle.dvd_read.proofs.Standing.{row-counted}
use Rattle.dvd_read.proofs.passes.count_corrections.Goals as goal

pub loop-i-init : goal.loop-i-init
loop-i-init c = record { counted = sym block_differences-none; few = omega arith }

pub loop-i-preserved : goal.loop-i-preserved
loop-i-preserved c =
    let rows : List (List ℕ) = rows_of c.args.work.now in
    let block : List (List ℕ) = block_of c.args.work.now in
    let i : ℕ = c.loop-i.i in
    let size : length rows ≡ 208 = rows-height c.args.work.now.received in
    let counted = rw c.rows-answers.ensures.rows at c.row_corrections-count.ensures.count in
    let width = rw c.rows-answers.ensures.rows at c.row_corrections-count.ensures.width in
    let words : List (List ℕ) = words_of_columns (column_answers c.args.work.now.columns) in
    let columns_size : length (column_answers c.args.work.now.columns) ≡ 182 = omega (arith, c.args.work.now.columns.size, c.args.work.now.columns.all.ok.0) in
    let block_width : length (line block i) ≡ 182 =
    ap length (from_columns-line words i (omega arith)) ∙ length-map words (λ word. slice_index word i)
    ∙ length-map (column_answers c.args.work.now.columns) (λ (column : ColumnAnswer). column.bytes) ∙ columns_size in
    let none : AnswerRow = record { bytes = []; fix = None } in
    let answer : AnswerRow = get_or (answers_of_work c.args.work.now) i none in
    let held : answer.bytes ≡ line block i =
    same_number_lists answer.bytes (line block i) (width ∙ sym block_width)
    (λ j within. sym (c.requires.held i j none (omega arith) (omega (arith, within, width)))) in
    record {
      counted = block_differences-next rows block i c.loop-i.count c.row_corrections-count.result (omega arith)
          (omega (arith, length-from_columns (words_of_columns (column_answers c.args.work.now.columns))))
          c.loop-i.invariant.counted
          (row-counted c.args.work.now i c.row.result.now _ block c.row_corrections-count.result (omega arith) c.requires.stage c.row.ensures
          (λ marks width said. counted marks width said ∙ ap (distance c.row.result.now) held));
      few = omega (arith, c.loop-i.invariant.few, c.row_corrections-count.ensures.most);
    }

pub returns : goal.returns
returns c =
    let rows : List (List ℕ) = rows_of c.args.work.now in
    let block : List (List ℕ) = block_of c.args.work.now in
    let size : length rows ≡ 208 = rows-height c.args.work.now.received in
    c.loop-i.invariant.counted
    ∙ ap (λ l. block_differences l (take c.loop-i.i block)) (take_all c.loop-i.i rows (omega arith))
    ∙ ap (block_differences rows) (take_all c.loop-i.i block (omega (arith, length-from_columns (words_of_columns (column_answers c.args.work.now.columns)))))
