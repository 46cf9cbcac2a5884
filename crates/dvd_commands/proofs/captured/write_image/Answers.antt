-- The proof of `write_image` in src/captured.rt.
use Rattle.std.proofs.Common.{◌∙◌, refl}
use Rattle.dvd_commands.proofs.recover.Blocks.{sectors_same}
use Rattle.dvd_commands.proofs.captured.write_image.Goals as goal

pub returns : goal.returns
returns g c = λ source report.
    let sectors_are = c.first_sectors.ensures ∙ sectors_same _ _ _ _ c.image_sectors-count.ensures.value refl in
    c.unit_written.ensures _ source _ _ report (rw sectors_are at c.write_each.ensures)
