-- The proof of `Marks::clear` in src/parts.rt.
use Rattle.std.proofs.Common.{◌≡◌, ◌∙◌, ℕ, replicate, map, ap}
use Rattle.dvd_capture.specs.Parts.{marks_of_row}
use Rattle.dvd_capture.proofs.MarkLists.{no_marks}
use Rattle.dvd_capture.proofs.parts.Marks.clear.Goals as goal

pub returns : goal.returns
returns c =
    let none : c.fill.new.self.items ≡ replicate 208 c.none.result = c.fill.ensures.items (λ y same. same) ∙ ap (λ (n : ℕ). replicate n c.none.result) c.args.self.now.size in
    ap (map marks_of_row) none ∙ no_marks 208 c.none.result c.none.ensures
