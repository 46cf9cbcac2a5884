-- The proof of `shortest` in src/register.rt.
use Rattle.std.proofs.Common.{◌≡◌, ◌<◌, ◌∷◌, length, get_or, sym, subst, ◌∙◌, arith}
use Rattle.std.proofs.lemmas.List.{get_or_read_under}
use Rattle.rs_decode.proofs.Candidates.{IsLeft, IsAt-start, IsAt-next, IsLeft-stays, IsLeft-corrected, IsLeft-longer}
use Rattle.rs_decode.proofs.Registers.{Generates-end, IsLeast-end, IsShortestTo}
use Rattle.rs_decode.proofs.register.shortest.Goals as goal
use Rattle.rs_decode.proofs.register.shortest.Goals.{then-found-ne0+then-len-place, then-found-ne0+else-len-place, else-found-ne0}

pub loop-place-init : goal.loop-place-init
loop-place-init c = record {
  lanes = omega arith;
  is_at = IsAt-start c.moved_up.result c.args.seq.now c.as_prefix.result c.moved_up-2.result c.requires (λ k below. omega (arith, c.type_inv.seq k)) c.as_prefix.ensures
      c.moved_up.ensures c.moved_up-2.ensures;
}

pub loop-place-preserved : goal.loop-place-preserved
loop-place-preserved c =
    let n = c.loop-place.place in
    let len = c.loop-place.len in
    let register = c.loop-place.register in
    let earlier = c.loop-place.earlier in
    let seq = c.args.seq.now in
    let at = c.loop-place.invariant.is_at in
    let after = c.if-found-ne0 in
    let inside : n < length seq = omega arith in
    let found : c.index-found.result.now ≡ get_or register.connections 0 0 =
    get_or_read_under register.connections 0 32 c.index-found.result.now 0 c.index-found.ensures (omega arith) (sym c.loop-place.invariant.lanes) in
    let left : IsLeft n after.len after.first after.register.taps after.earlier.taps seq after.register.connections after.earlier.connections =
    elim c.if-found-ne0.branch [
      | then-found-ne0+then-len-place w ↦
          rw (w.len-is, w.first-is, w.register-is, w.earlier-is)
          (IsLeft-longer n len register.taps earlier.taps seq register.connections earlier.connections c.requires inside at c.index-found.result.now
          w.corrected-register.result.taps w.corrected-register.result.connections found w.if-found-ne0.true
          w.corrected-register.ensures.taps w.corrected-register.ensures.connections w.inv-first.result w.mul_scalar-earlier.result.taps w.mul_scalar-earlier.result.connections
          w.inv-first.ensures (omega arith) w.mul_scalar-earlier.ensures.taps w.mul_scalar-earlier.ensures.connections (omega (arith, w.if-len-place.true)))
      | then-found-ne0+else-len-place w ↦
          rw (w.len-is, w.first-is, w.register-is, w.earlier-is)
          (IsLeft-corrected n len register.taps earlier.taps seq register.connections earlier.connections c.requires inside at c.index-found.result.now
          w.corrected-register.result.taps w.corrected-register.result.connections found w.if-found-ne0.true
          w.corrected-register.ensures.taps w.corrected-register.ensures.connections (omega (arith, w.if-len-place.false)))
      | else-found-ne0 w ↦
          rw (w.len-is, w.first-is, w.register-is, w.earlier-is)
          (IsLeft-stays n len register.taps earlier.taps seq register.connections earlier.connections c.requires inside at (sym found ∙ w.if-found-ne0.false))
    ] in
    record {
      lanes = c.moved_down-register.ensures.size;
      is_at = IsAt-next n after.len after.first after.register.taps after.earlier.taps seq after.register.connections after.earlier.connections
          c.moved_down-register.result c.moved_up-earlier.result c.requires inside c.moved_down-register.ensures.each c.moved_up-earlier.ensures left;
    }

pub returns-clause-generates : goal.returns-clause-generates
returns-clause-generates c =
    let end : c.loop-place.place ≡ length c.args.seq.now = omega arith in
    let is = subst (λ n. IsShortestTo n c.loop-place.len (1 ∷ c.loop-place.register.taps) c.args.seq.now) end c.loop-place.invariant.is_at.shortest in
    rw c.all_taps.ensures (Generates-end c.loop-place.len (1 ∷ c.loop-place.register.taps) c.args.seq.now is c.requires)

pub returns-clause-least : goal.returns-clause-least
returns-clause-least c =
    let end : c.loop-place.place ≡ length c.args.seq.now = omega arith in
    let is = subst (λ n. IsShortestTo n c.loop-place.len (1 ∷ c.loop-place.register.taps) c.args.seq.now) end c.loop-place.invariant.is_at.shortest in
    IsLeast-end c.loop-place.len (1 ∷ c.loop-place.register.taps) c.args.seq.now is
