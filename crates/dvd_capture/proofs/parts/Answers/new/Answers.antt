-- The proof of `Answers::new` in src/parts.rt.
use Rattle.std.proofs.Common.{◌≡◌, Ok}
use Rattle.dvd_block.proofs.Taken.{before_map_err}
use Rattle.dvd_capture.proofs.parts.Answers.new.Goals as goal

pub returns : goal.returns
returns c =
    let was : c.vec.result ≡ Ok c.in_ok-rows.rows = before_map_err c.vec.result c.map_err.result c.in_ok-rows.rows _ c.map_err.ensures.cases c.map_err.ensures.variant c.in_ok-rows.was in
    rw was at c.vec.ensures.items_if_clones_equal (λ y same. same)
