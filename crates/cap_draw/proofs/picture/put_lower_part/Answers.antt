-- The proof of `put_lower_part` in src/picture.rt.
use Rattle.std.proofs.Common.{◌≡◌, ◌++◌, List, ℕ}
use Rattle.cap_draw.specs.Axes.{lower_frame, marks_frame, band_line}
use Rattle.cap_draw.specs.Bars.{columns_text}
use Rattle.cap_draw.specs.Picture.{lower_part}
use Rattle.cap_draw.specs.Words.{legend}
use Rattle.cap_draw.specs.declared.bars.Part.TheVariants.{FailedRows, RefusedBlocks}
use Rattle.cap_draw.proofs.Texts.{more}
use Rattle.cap_draw.proofs.picture.put_lower_part.Goals as goal

pub returns-clause-bytes : goal.returns-clause-bytes
unfolding lower_part
returns-clause-bytes c =
    let page : List ℕ = c.args.page.now in
    let t1 : List ℕ = lower_frame c.args.plot.now in
    let p1 : c.put_lower_frame.new.page ≡ page ++ t1 = c.put_lower_frame.ensures.bytes in
    let t2 : List ℕ = t1 ++ columns_text FailedRows c.args.cells.now c.args.plot.now c.args.plot.now.columns in
    let p2 : c.put_columns.new.page ≡ page ++ t2 = more page t1 (columns_text FailedRows c.args.cells.now c.args.plot.now c.args.plot.now.columns) p1 c.put_columns.ensures.bytes in
    let t3 : List ℕ = t2 ++ marks_frame c.args.plot.now in
    let p3 : c.put_marks_frame.new.page ≡ page ++ t3 = more page t2 (marks_frame c.args.plot.now) p2 c.put_marks_frame.ensures.bytes in
    let t4 : List ℕ = t3 ++ columns_text RefusedBlocks c.args.cells.now c.args.plot.now c.args.plot.now.columns in
    let p4 : c.put_columns-2.new.page ≡ page ++ t4 = more page t3 (columns_text RefusedBlocks c.args.cells.now c.args.plot.now c.args.plot.now.columns) p3 c.put_columns-2.ensures.bytes in
    let t5 : List ℕ = t4 ++ band_line c.args.plot.now in
    let p5 : c.put_marks_line.new.page ≡ page ++ t5 = more page t4 (band_line c.args.plot.now) p4 c.put_marks_line.ensures.bytes in
    more page t5 (legend) p5 c.put_legend.ensures.bytes
