-- The proof of `Received::new` in src/parts.rt.
use Rattle.std.proofs.Common.{◌≡◌, ◌∙◌, Ok, ap}
use Rattle.dvd_block.proofs.Taken.{before_map_err}
use Rattle.dvd_capture.specs.Parts.{rows_in}
use Rattle.dvd_capture.proofs.FlatRows.{rows_in-zeros}
use Rattle.dvd_capture.proofs.parts.Received.new.Goals as goal

pub returns : goal.returns
returns c =
    let was : c.vec.result ≡ Ok c.in_ok-bytes.bytes = before_map_err c.vec.result c.map_err.result c.in_ok-bytes.bytes _ c.map_err.ensures.cases c.map_err.ensures.variant c.in_ok-bytes.was in
    ap rows_in (rw was at c.vec.ensures.items_if_clones_equal (λ y same. same)) ∙ rows_in-zeros
