-- The proof of `Received::set_rows` in src/parts.rt.
use Rattle.std.proofs.Common.{◌∙◌, ap}
use Rattle.dvd_capture.specs.Parts.{rows_in}
use Rattle.dvd_capture.proofs.FlatRows.{rows_in-flat}
use Rattle.dvd_capture.proofs.parts.Received.set_rows.Goals as goal

pub returns : goal.returns
returns c =
    ap rows_in (c.copy_from_slice.ensures.items ∙ c.as_flattened.ensures.value)
    ∙ rows_in-flat c.args.rows.now c.requires c.told-rows
