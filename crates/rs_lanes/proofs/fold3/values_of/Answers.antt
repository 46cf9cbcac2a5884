-- The proof of `values_of` in src/fold3.rt.
use Rattle.std.proofs.Common.{◌≡◌, ℕ, ◌%◌, List, sym, subst, ◌∙◌, inl, inr, arith}
use Rattle.std.proofs.lemmas.Bool.{cases_eq}
use Rattle.coding.specs.Field.{alpha, power}
use Rattle.coding.specs.Words.{value}
use Rattle.coding.specs.Rows.{line}
use Rattle.rs_lanes.specs.Inner.Lanes.{HasLanes}
use Rattle.rs_lanes.specs.Inner.Thirds.{exponent_at, third}
use Rattle.rs_lanes.proofs.FifthLemmas.{all_exponents}
use Rattle.rs_lanes.proofs.fold3.values_of.Goals as goal

pub returns : goal.returns
returns g c = λ k inside.
    let all = c.put_last_value.ensures in
    let zeroth = c.put_values.ensures in
    let first = c.put_values-2.ensures in
    let second = c.put_values-3.ensures in
    let has : ℕ → ℕ → Type 0 = λ i e. HasLanes (line c.put_last_value.new.all e) (λ j. value (third c.args.thirds.now i j) (power alpha e)) in
    let moved : (i e : ℕ) (row : List ℕ) → line c.put_last_value.new.all e ≡ row → HasLanes row (λ j. value (third c.args.thirds.now i j) (power alpha e)) → has i e =
    λ i e row is held. subst (λ lanes. HasLanes lanes (λ j. value (third c.args.thirds.now i j) (power alpha e))) (sym is) held in
    elim (cases_eq k 15) [
      | inl last ↦ subst (λ e. has (e % 3) e) (sym last) (all.set (omega (arith, last, inside, c.requires)))
      | inr other ↦
          all_exponents has g.row.R
          (λ m few wanted.
          moved 0 (exponent_at 0 m) _
          (all.others (exponent_at 0 m) (λ same. absurd (omega arith))
          ∙ second.others (exponent_at 0 m) (λ same. absurd (omega arith))
          ∙ first.others (exponent_at 0 m) (λ same. absurd (omega arith))
          ∙ zeroth.set m few wanted)
          (c.values.ensures m few wanted))
          (λ m few wanted.
          moved 1 (exponent_at 1 m) _
          (all.others (exponent_at 1 m) (λ same. absurd (omega arith))
          ∙ second.others (exponent_at 1 m) (λ same. absurd (omega arith))
          ∙ first.set m few wanted)
          (c.values-2.ensures m few wanted))
          (λ m few wanted.
          moved 2 (exponent_at 2 m) _ (all.others (exponent_at 2 m) (λ same. absurd (omega arith)) ∙ second.set m few wanted) (c.values-3.ensures m few wanted))
          k (omega (arith, inside, other, c.requires)) inside
    ]
