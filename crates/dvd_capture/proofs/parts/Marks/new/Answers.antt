-- The proof of `Marks::new` in src/parts.rt.
use Rattle.std.proofs.Common.{◌≡◌, ◌∙◌, Ok, replicate, map, ap}
use Rattle.dvd_block.proofs.Taken.{before_map_err}
use Rattle.dvd_capture.specs.Parts.{marks_of_row}
use Rattle.dvd_capture.proofs.MarkLists.{no_marks}
use Rattle.dvd_capture.proofs.parts.Marks.new.Goals as goal

pub returns : goal.returns
returns c =
    let was : c.vec.result ≡ Ok c.in_ok-rows.rows = before_map_err c.vec.result c.map_err.result c.in_ok-rows.rows _ c.map_err.ensures.cases c.map_err.ensures.variant c.in_ok-rows.was in
    let none : c.in_ok-rows.rows.items ≡ replicate 208 c.none.result = rw was at c.vec.ensures.items_if_clones_equal (λ y same. same) in
    ap (map marks_of_row) none ∙ no_marks 208 c.none.result c.none.ensures
