-- The proof of `places` in src/places.rt.
use Rattle.std.proofs.Common.{◌≡◌, ◌≤◌, ◌∙◌, length, length-take-le, get_or-take, rules, arith}
use Rattle.coding.specs.Filling.{marked}
use Rattle.rs_decode.proofs.Fillings.{points-few}
use Rattle.rs_decode.proofs.places.Erasures.places.Goals as goal

pub returns-clause-count : goal.returns-clause-count
returns-clause-count g c =
    let erasures = c.args.self.now in
    let room : c.len.result ≤ length erasures.places = search rules in
    length-take-le c.len.result erasures.places room ∙ c.len.ensures.value ∙ points-few erasures.marks erasures.points.items erasures.gathered

pub returns-clause-places : goal.returns-clause-places
returns-clause-places g c = λ i below.
    let erasures = c.args.self.now in
    let here : c.len.result ≡ marked erasures.marks = c.len.ensures.value ∙ points-few erasures.marks erasures.points.items erasures.gathered in
    get_or-take c.len.result erasures.places i 0 (omega (arith, here, below)) ∙ erasures.located i (omega (arith, here, below, c.len.ensures.value))
