-- The proof of `put_picture` in src/picture.rt.
use Rattle.std.proofs.Common.{◌∙◌, ◌++◌, ap}
use Rattle.cap_draw.specs.Picture.{lower_part, picture, upper_part}
use Rattle.cap_draw.specs.declared.plot.Plot.{Plot}
use Rattle.cap_draw.proofs.picture.put_picture.Goals as goal

pub returns-clause-bytes : goal.returns-clause-bytes
unfolding picture
returns-clause-bytes c =
    c.put_lower_part.ensures.bytes ∙ ap (λ page. page ++ lower_part c.args.cells.now c.plot_of-plot.result) c.put_upper_part.ensures.bytes
    ∙ ap (λ (plot : Plot). upper_part c.args.cells.now c.args.closed plot ++ lower_part c.args.cells.now plot) c.plot_of-plot.ensures.plot
