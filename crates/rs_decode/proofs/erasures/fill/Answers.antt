-- The proof of `fill` in src/erasures.rt.
use Rattle.std.proofs.Common.{◌≡◌, subst, ap, ◌∙◌, rules}
use Rattle.coding.specs.Filling.{IsFilling, marked}
use Rattle.rs_decode.proofs.Fillings.{points-few}
use Rattle.rs_decode.proofs.erasures.fill.Goals as goal

-- the places that were filled are the marked ones, and there is a point for each
pub returns-clause-ok : goal.returns-clause-ok
returns-clause-ok g c =
    let erasures = c.in-Some.erasures in
    let marks_are : erasures.marks ≡ c.args.marks.now = search rules in (
      subst (λ marks. IsFilling g.row.N g.row.R c.args.word.now marks c.fill_from.new.word) marks_are c.in_ok-fill_from.ensures.ok,
      c.len.ensures.value ∙ points-few erasures.marks erasures.points.items erasures.gathered ∙ ap marked marks_are,
    )
