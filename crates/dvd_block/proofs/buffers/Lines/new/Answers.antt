-- The proof of `Lines::new` in src/buffers.rt.
use Rattle.std.proofs.Common.{◌≡◌, Ok, refl, replicate}
use Rattle.dvd_block.proofs.Taken.{before_map_err, same_array}
use Rattle.dvd_block.proofs.buffers.Lines.new.Goals as goal

pub returns : goal.returns
returns c =
    let was : c.vec.result ≡ Ok c.in_ok-rows.rows = before_map_err c.vec.result c.map_err.result c.in_ok-rows.rows _ c.map_err.ensures.cases c.map_err.ensures.variant c.in_ok-rows.was in
    rw was at c.vec.ensures.items_if_clones_equal (λ y same. same_array 182 (replicate 182 0) y refl same)
