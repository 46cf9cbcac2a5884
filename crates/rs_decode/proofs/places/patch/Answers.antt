-- The proof of `patch` in src/places.rt.
use Rattle.std.proofs.Common.{◌≡◌, ◌-◌, ◌<◌, length, length-set, get_or, set, arith, ap, sym, subst, refl, All, ◌∙◌}
use Rattle.std.proofs.lemmas.List.{take_all}
use Rattle.std.proofs.lemmas.List.Elements.{All-from_get_or}
use Rattle.coding.specs.Field.{plus}
use Rattle.coding.specs.Words.{IsByte}
use Rattle.rs_decode.specs.Patches.{patched}
use Rattle.rs_decode.proofs.Marks.{byte-added, patched-next, patched-none, point-nonzero, point-within}
use Rattle.rs_decode.proofs.places.patch.Goals as goal
use Rattle.rs_decode.proofs.places.patch.Goals.{then-point-ne0+then-exponent-word, then-point-ne0+else-exponent-word, else-point-ne0}

pub loop-k-init : goal.loop-k-init
loop-k-init c = record {
  size = refl;
  bytes = All-from_get_or IsByte c.args.word.now 0 (λ k inside. omega (arith, c.type_inv.word k));
  patched = λ marks size are. sym (patched-none c.args.word.now marks);
}

pub loop-k-preserved : goal.loop-k-preserved
loop-k-preserved c =
    let k = c.loop-k.k in
    let word = c.loop-k.word in
    let points = c.args.points.now in
    let bytes = c.args.bytes.now in
    let before = c.loop-k.invariant in
    let inside : k < length points = c.loop-k-test.true in
    elim c.if-point-ne0.branch [
      | then-point-ne0+then-exponent-word w ↦
          let place = length word - 1 - w.log-exponent.result in
          let same : length c.args.word.now - 1 - w.log-exponent.result ≡ place = omega (arith, before.size) in
          record {
            size = ap length w.word-is ∙ length-set word place (plus (get_or word place 0) (get_or bytes k 0)) ∙ before.size;
            bytes = subst (All IsByte) (sym w.word-is) (byte-added word place (get_or bytes k 0) (omega (arith, w.if-exponent-word.true)) (omega (arith, c.type_inv.bytes k)) before.bytes);
            patched = λ marks size are.
                w.word-is
                ∙ ap (λ p. set word p (plus (get_or word p 0) (get_or bytes k 0))) (sym same)
                ∙ patched-next c.args.word.now word marks points bytes k w.log-exponent.result (omega (arith, c.requires.short)) size are c.requires.fits inside
                w.log-exponent.ensures.below w.log-exponent.ensures.reaches (before.patched marks size are);
          }
      | then-point-ne0+else-exponent-word w ↦ record {
        size = ap length w.word-is ∙ before.size;
        bytes = subst (All IsByte) (sym w.word-is) before.bytes;
        patched = λ marks size are.
            absurd (omega (arith, point-within marks points k w.log-exponent.result (omega (arith, c.requires.short)) are inside w.log-exponent.ensures.below w.log-exponent.ensures.reaches, before.size, w.if-exponent-word.false));
      }
      | else-point-ne0 w ↦ record {
        size = ap length w.word-is ∙ before.size;
        bytes = subst (All IsByte) (sym w.word-is) before.bytes;
        patched = λ marks size are. absurd (point-nonzero marks points k are inside (omega (arith, w.if-point-ne0.false)));
      }
    ]

pub returns-clause-patched : goal.returns-clause-patched
returns-clause-patched c = λ marks size are.
    c.loop-k.invariant.patched marks size are
    ∙ ap (patched c.args.word.now marks) (take_all c.loop-k.k c.args.bytes.now (omega arith))

pub returns-clause-bytes : goal.returns-clause-bytes
returns-clause-bytes c = c.loop-k.invariant.bytes
