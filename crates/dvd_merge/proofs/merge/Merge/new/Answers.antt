-- The proof of `Merge::new` in src/merge.rt.
use Rattle.std.proofs.Common.{◌≡◌, Ok, refl, replicate}
use Rattle.dvd_block.proofs.Taken.{before_map_err, same_array}
use Rattle.dvd_merge.proofs.Tables.{zeros-unseen}
use Rattle.dvd_merge.proofs.merge.Merge.new.Goals as goal

pub returns : goal.returns
returns c =
    let values_was : c.vec.result ≡ Ok c.in_ok-values.values = before_map_err c.vec.result c.map_err.result c.in_ok-values.values _ c.map_err.ensures.cases c.map_err.ensures.variant c.in_ok-values.was in
    let codes_was : c.vec-2.result ≡ Ok c.in_ok-codes.codes = before_map_err c.vec-2.result c.map_err-2.result c.in_ok-codes.codes _ c.map_err-2.ensures.cases c.map_err-2.ensures.variant c.in_ok-codes.was in
    zeros-unseen c.in_ok-values.values.items c.in_ok-codes.codes.items
    (rw values_was at c.vec.ensures.items_if_clones_equal (λ y same. same_array 182 (replicate 182 0) y refl same))
    (rw codes_was at c.vec-2.ensures.items_if_clones_equal (λ y same. same_array 182 (replicate 182 0) y refl same))
