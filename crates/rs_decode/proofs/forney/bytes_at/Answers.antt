-- The proof of `bytes_at` in src/forney.rt.
use Rattle.std.proofs.Common.{◌≡◌, ◌<◌, ◌∷◌, [], ◌+◌, length, get_or, below_more, ap, sym, ◌∙◌, arith}
use Rattle.std.proofs.lemmas.Grind.{same_number_lists}
use Rattle.std.proofs.lemmas.List.{get_or_append_left, get_or_push}
use Rattle.std.proofs.lemmas.List.Elements.{All-from_get_or}
use Rattle.coding.specs.Words.{IsByte}
use Rattle.rs_decode.proofs.Evaluator.{byte-found}
use Rattle.rs_decode.proofs.forney.bytes_at.Goals as goal

pub loop-i-init : goal.loop-i-init
loop-i-init c = record {
  size = ap length c.new-bytes.ensures;
  found = λ bytes same all are j below. absurd (omega arith);
}

pub loop-i-preserved : goal.loop-i-preserved
loop-i-preserved c =
    let i = c.loop-i.i in
    let points = c.args.points.now in
    let before = c.loop-i.bytes.items in
    let so_far = c.loop-i.invariant in
    let inside : i < length points = c.loop-i-test.true in
    let all_points = All-from_get_or IsByte points 0 (λ k below. omega (arith, c.type_inv.points k)) in
    record {
      size = c.push.ensures.len ∙ ap (λ n. n + 1) so_far.size;
      found = λ bytes same all are.
          below_more (λ j. get_or bytes j 0 ≡ get_or c.push.new.self.items j 0) i
          (λ j below.
          so_far.found bytes same all are j below
          ∙ sym (ap (λ xs. get_or xs j 0) c.push.ensures.items ∙ get_or_append_left before (c.div.result ∷ []) 0 j (omega (arith, so_far.size))))
          (byte-found points bytes c.evaluator.result i c.derivative.result c.div.result c.requires.distinct all_points all same inside (c.evaluator.ensures.values bytes are)
          c.derivative.ensures.slope c.derivative.ensures.nonzero (omega arith) (c.div.ensures ∙ c.value_at-value.ensures)
          ∙ sym (ap (λ xs. get_or xs i 0) c.push.ensures.items ∙ get_or_push before c.div.result 0 i so_far.size));
    }

pub returns : goal.returns
returns c =
    let all : c.loop-i.i ≡ length c.args.points.now = omega (arith, c.loop-i.auto.i-end, c.loop-i-test.false) in
    record {
      size = c.loop-i.invariant.size ∙ all;
      only = λ bytes same bytes_all are.
          same_number_lists bytes c.loop-i.bytes.items (same ∙ sym (c.loop-i.invariant.size ∙ all))
          (λ j inside. c.loop-i.invariant.found bytes same bytes_all are j (omega (arith, all, same)));
    }
