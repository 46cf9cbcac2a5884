-- The proof of `value_at` in src/evaluation.rt.
use Rattle.std.proofs.Common.{◌≡◌, ◌<◌, ◌+◌, ◌-◌, ◌∙◌, suc, length, drop, sym, ap, arith}
use Rattle.std.proofs.lemmas.List.{drop_all}
use Rattle.coding.specs.Field.{alpha, plus, power}
use Rattle.coding.specs.Words.{value}
use Rattle.gf_field.proofs.FieldLaws.{power-zero}
use Rattle.rs_code.proofs.Values.{value-nil}
use Rattle.rs_code.proofs.Terms.{value-next, value-same, shift-next}
use Rattle.rs_code.proofs.evaluation.value_at.Goals as goal
use Rattle.rs_code.proofs.evaluation.value_at.Goals.{then-word-k-ne0, else-word-k-ne0}

pub loop-k-init : goal.loop-k-init
loop-k-init c =
    let word = c.args.word.now in
    let x = power alpha c.args.exponent in
    let none : length word - length word ≡ 0 = omega arith in
    record {
      sum = sym (ap (λ p. value p x) (drop_all (length word) word (omega arith)) ∙ value-nil x);
      shifted = power-zero alpha ∙ sym (ap (power x) none ∙ power-zero x);
      small = omega arith;
    }

pub loop-k-preserved : goal.loop-k-preserved
loop-k-preserved c =
    let word = c.args.word.now in
    let e = c.args.exponent in
    let k = c.loop-k.k - 1 in
    let before = c.loop-k.invariant in
    let up : suc k ≡ c.loop-k.k = omega arith in
    let inside : k < length word = omega arith in
    let so_far : c.loop-k.sum ≡ value (drop (suc k) word) (power alpha e) = before.sum ∙ ap (λ n. value (drop n word) (power alpha e)) (sym up) in
    let shifted : power alpha c.loop-k.shift ≡ power (power alpha e) (length word - suc k) = before.shifted ∙ ap (λ n. power (power alpha e) (length word - n)) (sym up) in
    let one_up : length word - suc k + 1 ≡ length word - k = omega arith in
    record {
      sum = elim c.if-word-k-ne0.branch [
        | then-word-k-ne0 w ↦ w.sum-is ∙ ap (plus c.loop-k.sum) w.alpha_pow-sum.ensures ∙ value-next word k e w.log.result c.loop-k.shift c.loop-k.sum inside w.log.ensures.reaches shifted so_far
        | else-word-k-ne0 w ↦ w.sum-is ∙ value-same word k (power alpha e) c.loop-k.sum inside (omega (arith, w.if-word-k-ne0.false)) so_far
      ];
      shifted = shift-next e c.loop-k.shift (length word - suc k) shifted ∙ ap (power (power alpha e)) one_up;
      small = omega (arith, before.small, c.requires.below);
    }
