-- The proof of `put_upper_part` in src/picture.rt.
use Rattle.std.proofs.Common.{◌≡◌, ◌∙◌, ◌++◌, List, ℕ, ap}
use Rattle.cap_draw.specs.Axes.{block_axis, limit_line, plot_frame, row_lines}
use Rattle.cap_draw.specs.Bars.{columns_text}
use Rattle.cap_draw.specs.Picture.{upper_part}
use Rattle.cap_draw.specs.Words.{head, totals_text}
use Rattle.cap_draw.specs.declared.bars.Part.TheVariants.{Sums}
use Rattle.cap_draw.proofs.Texts.{more}
use Rattle.cap_draw.proofs.picture.put_upper_part.Goals as goal

pub returns-clause-bytes : goal.returns-clause-bytes
unfolding upper_part
returns-clause-bytes c =
    let page : List ℕ = c.args.page.now in
    let t1 : List ℕ = head c.args.plot.now.width in
    let p1 : c.put_head.new.page ≡ page ++ t1 = c.put_head.ensures.bytes in
    let t2 : List ℕ = t1 ++ totals_text c.args.cells.now c.args.plot.now.columns c.args.closed in
    let p2 : c.put_totals.new.page ≡ page ++ t2 = more page t1 (totals_text c.args.cells.now c.args.plot.now.columns c.args.closed) p1 c.put_totals.ensures.bytes in
    let t3 : List ℕ = t2 ++ row_lines c.args.plot.now 7 in
    let p3 : c.put_row_lines.new.page ≡ page ++ t3 = more page t2 (row_lines c.args.plot.now 7) p2 c.put_row_lines.ensures.bytes in
    let t4 : List ℕ = t3 ++ plot_frame c.args.plot.now in
    let p4 : c.put_plot_frame.new.page ≡ page ++ t4 = more page t3 (plot_frame c.args.plot.now) p3 c.put_plot_frame.ensures.bytes in
    let t5 : List ℕ = t4 ++ columns_text Sums c.args.cells.now c.args.plot.now c.args.plot.now.columns in
    let p5 : c.put_columns.new.page ≡ page ++ t5 = more page t4 (columns_text Sums c.args.cells.now c.args.plot.now c.args.plot.now.columns) p4 c.put_columns.ensures.bytes in
    let t6 : List ℕ = t5 ++ limit_line c.args.plot.now in
    let p6 : c.put_limit.new.page ≡ page ++ t6 = more page t5 (limit_line c.args.plot.now) p5 c.put_limit.ensures.bytes in
    more page t6 (block_axis c.args.cells.now c.args.plot.now) p6 c.put_block_axis.ensures.bytes
    ∙ ap (λ start. start ++ upper_part c.args.cells.now c.args.closed c.args.plot.now) c.requires.empty
