-- The proof of `Erasures::corrections` in src/places.rt.
use Rattle.std.proofs.Common.{◌≤◌, ◌∙◌, subst, sym}
use Rattle.rs_decode.proofs.Fillings.{marked_points-distinct}
use Rattle.rs_decode.proofs.places.Erasures.corrections.Goals as goal

pub bytes_at-requires-in-None-clause-distinct : goal.bytes_at-requires-in-None-clause-distinct
bytes_at-requires-in-None-clause-distinct g c =
    let erasures = c.args.self.now in
    marked_points-distinct erasures.marks c.deref.result.now (subst (λ n. n ≤ 255) (sym erasures.size) c.requires.short) (c.deref.ensures.0 ∙ erasures.gathered)
