-- The proof of `Received::rows` in src/parts.rt.
use Rattle.std.proofs.Common.{◌∙◌, ◌/◌, length, ap, arith}
use Rattle.dvd_capture.specs.Parts.{rows_in}
use Rattle.dvd_capture.proofs.FlatRows.{chunks_are}
use Rattle.dvd_capture.proofs.parts.Received.rows.Goals as goal

pub returns-clause-rows : goal.returns-clause-rows
returns-clause-rows c =
    c.as_chunks.ensures.front ∙ chunks_are (length c.deref.result.now / 182) c.deref.result.now (omega arith)
    ∙ ap rows_in c.deref.ensures.value
