-- The proof of `Erasures::shared` in src/places.rt.
use Rattle.std.proofs.Common.{◌≤◌, ◌∙◌, subst, sym}
use Rattle.rs_decode.proofs.Fillings.{marked_points-distinct}
use Rattle.rs_decode.proofs.places.Erasures.shared.Goals as goal

pub inverse_of-erasures-requires : goal.inverse_of-erasures-requires
inverse_of-erasures-requires g c =
    let erasures = c.in_ok-erasures.erasures in
    marked_points-distinct erasures.marks c.deref.result.now (subst (λ n. n ≤ 255) (sym erasures.size) c.requires.short) (c.deref.ensures.0 ∙ erasures.gathered)
