-- The proof of `first_wrong_word` in src/checking.rt.
use Rattle.std.proofs.Common.{◌≡◌, ℕ, ◌+◌, ◌-◌, ◌<◌, List, refl, subst, arith}
use Rattle.cd_sector.specs.Words.{IsRight}
use Rattle.cd_sector.proofs.Assembly.{all_words}
use Rattle.cd_sector.proofs.checking.first_wrong_word.Goals as goal

pub returns-in_err-word-clause-none : goal.returns-in_err-word-clause-none
returns-in_err-word-clause-none c = λ _ word below.
    let sector : List ℕ = c.args.sector.now in
    all_words (IsRight sector)
    (λ p under. (c.p_faults.ensures.right p under).0 (c.in_default.ensures.none refl p (omega (arith, c.p_faults.ensures.size))))
    (λ q above under.
    let here : 86 + (q - 86) ≡ q = omega arith in
    subst (IsRight sector) here
    ((c.q_faults.ensures.right (q - 86) (omega arith)).0 (c.in_err-word.ensures.none refl (q - 86) (omega (arith, c.q_faults.ensures.size)))))
    word below

pub returns-clause-some : goal.returns-clause-some
returns-clause-some c =
    let sector : List ℕ = c.args.sector.now in
    let n : ℕ = c.in_ok-word.word in
    let found = c.in_ok-word.ensures.some in
    let inside : n < 52 = omega (arith, found.0, c.q_faults.ensures.size) in (
      omega arith,
      (λ right. found.1 ((c.q_faults.ensures.right n inside).1 right)),
      (λ word before.
          all_words (λ w. w < 86 + n → IsRight sector w)
          (λ p under _. (c.p_faults.ensures.right p under).0 (c.in_default.ensures.none refl p (omega (arith, c.p_faults.ensures.size))))
          (λ q above under early.
          let here : 86 + (q - 86) ≡ q = omega arith in
          subst (IsRight sector) here ((c.q_faults.ensures.right (q - 86) (omega arith)).0 (found.2 (q - 86) (omega arith))))
          word (omega arith) before),
    )
