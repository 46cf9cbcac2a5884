-- The proof of `count_differences` in src/passes.rt.
use Rattle.std.proofs.Common.{◌≡◌, ◌∙◌, ap, length, take, sym, arith}
use Rattle.std.proofs.lemmas.List.{take_all}
use Rattle.coding.specs.Distance.{distance}
use Rattle.dvd_capture.specs.Parts.{received_rows}
use Rattle.coding.specs.TwoPass.{from_columns}
use Rattle.dvd_capture.proofs.Columns.{length-from_columns}
use Rattle.dvd_capture.proofs.WorkParts.{rows-height}
use Rattle.coding.specs.Found.{block_differences}
use Rattle.dvd_read.specs.Inner.Found.{words_of_columns}
use Rattle.dvd_read.proofs.Differences.{block_differences-none, block_differences-next}
use Rattle.dvd_read.proofs.passes.count_differences.Goals as goal

pub loop-i-init : goal.loop-i-init
loop-i-init c = record { counted = sym block_differences-none; few = omega arith }

pub loop-i-preserved : goal.loop-i-preserved
loop-i-preserved c =
    let rows = received_rows c.args.received.now in
    let block = from_columns (words_of_columns c.args.columns.now) in
    let i = c.loop-i.i in
    let size : length rows ≡ 208 = rows-height c.args.received.now in
    record {
      counted = block_differences-next rows block i c.loop-i.count c.row_differences-count.result (omega arith)
          (omega (arith, length-from_columns (words_of_columns c.args.columns.now))) c.loop-i.invariant.counted
          (c.row_differences-count.ensures.count ∙ ap (λ row. distance row c.read_row.new.row) c.row.ensures
          ∙ ap (distance _) c.read_row.ensures);
      few = omega (arith, c.loop-i.invariant.few, c.row_differences-count.ensures.most);
    }

pub returns : goal.returns
returns c =
    let rows = received_rows c.args.received.now in
    let block = from_columns (words_of_columns c.args.columns.now) in
    let size : length rows ≡ 208 = rows-height c.args.received.now in
    c.loop-i.invariant.counted
    ∙ ap (λ l. block_differences l (take c.loop-i.i block)) (take_all c.loop-i.i rows (omega arith))
    ∙ ap (block_differences rows) (take_all c.loop-i.i block (omega (arith, length-from_columns (words_of_columns c.args.columns.now))))
