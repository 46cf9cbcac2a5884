-- How much a run writes whose units write so much each.
use Rattle.std.proofs.Common.{◌≡◌, ◌≢◌, ◌∙◌, inl, inr, ℕ, zero, suc, ◌+◌, List, [], ◌∷◌, ◌++◌, length, length-append, ap, sym, subst, add-one, arith}
use Rattle.dvd_loop.specs.Laws.{IsFaultless, IsOver}
use Rattle.dvd_loop.specs.Machine.{Performs, EndsAfterLast, Continues, ContinuesAfter, IsOutcome, IsUnit, IsEndedWithin, Outcome, Step, Units, bad_of, taking}
use Rattle.dvd_loop.specs.UnitCommand.{reported, written}
use Rattle.dvd_loop.specs.declared.ends.LoopEnd.TheVariants.{Done}
use Rattle.dvd_loop.specs.declared.ends.UnitKind.{UnitKind}
use Rattle.dvd_loop.specs.declared.ends.UnitKind.TheVariants.{Last}
use Rattle.dvd_loop.proofs.Faultless.{all_done, faultless_after, short_or_broken}
use Rattle.dvd_loop.proofs.Faults.{nothing_after}
use Rattle.dvd_loop.proofs.Over.{start, start-suc, start-zero}
use Rattle.dvd_loop.proofs.Reached.{goes_further}
use Rattle.dvd_loop.proofs.StepLemmas.{onto}

-- a run that ended after its last unit doesn't end within one
not_within : (units : Units) (k : ℕ) (bytes : List ℕ) (a : Outcome) → IsEndedWithin units k bytes a → IsFaultless a.end → IsOver a.end → ⊥
not_within units k bytes a w none over = elim (short_or_broken units k bytes a w none) [
  | inl (cut, is) ↦ subst IsOver (ap (λ (o : Outcome). o.end) is) over
  | inr (at, own, left, prefix, broken, is) ↦ subst IsOver (ap (λ (o : Outcome). o.end) is) over
]

-- Units none of which is the last, each of which writes so many bytes; nothing opens or closes them.
pub record AreWide (units : Units) (wide : ℕ → ℕ) : Type 0 where
  pub opens : units.opens ≡ []
  pub does : (before : List (List ℕ)) (own : List ℕ) (steps : List Step) (kind : UnitKind) → IsUnit units before own steps kind
      → (length (written steps) ≡ wide (length before)) × (kind ≢ Last)
  pub closes : (before : List (List ℕ)) (steps : List Step) → units.closes before steps → steps ≡ []

module _ (units : Units) (wide : ℕ → ℕ) (are : AreWide units wide) where
  -- what the units to come write
  goes_wide : (n : ℕ) (before : List (List ℕ)) (bad : ℕ) (bytes : List ℕ) (a : Outcome) → length before + n ≡ units.count
      → Continues units n before bad bytes a → IsFaultless a.end → IsOver a.end
      → start wide (length before) + length a.out ≡ start wide units.count
  unfolding Continues
  goes_wide zero before bad bytes a all (steps, closes, does) none over =
      let here : length before ≡ units.count = omega arith in
      let nothing = (nothing_after units.after_last bad bytes a (subst (λ l. Performs l (EndsAfterLast units.after_last bad bytes) a) (are.closes before steps closes) does)).0 in
      omega (arith, ap length nothing, ap (start wide) here)
  goes_wide (suc n) before bad bytes a all goes none over = elim goes [
    | inl w ↦ absurd (not_within units (length before) bytes a w none over)
    | inr t ↦
        let Next : Outcome → Type 0 = Continues units n (before ++ t.own ∷ []) (bad + bad_of t.kind) t.left in
        let unit = are.does before t.own t.steps t.kind t.unit in
        let faultless : IsFaultless t.after.end = subst (λ (o : Outcome). IsFaultless o.end) t.takes none in
        let all_taken = all_done t.steps (ContinuesAfter t.kind Next) t.after t.does faultless in
        let goes_next = goes_further t.kind Next all_taken.after unit.1 all_taken.holds in
        let is : a ≡ onto t.own (written t.steps) (reported t.steps) all_taken.after = t.takes ∙ ap (taking t.own) all_taken.is in
        let one : length (before ++ t.own ∷ []) ≡ length before + 1 = length-append before (t.own ∷ []) in
        let further = ap (start wide) (one ∙ add-one (length before)) ∙ start-suc wide (length before) in
        let rest = goes_wide n (before ++ t.own ∷ []) (bad + bad_of t.kind) t.left all_taken.after (omega arith) goes_next
        (faultless_after t.steps (ContinuesAfter t.kind Next) t.after all_taken faultless) (subst IsOver (ap (λ (o : Outcome). o.end) is) over) in
        omega (
          arith,
          ap (λ (o : Outcome). length o.out) is,
          length-append (written t.steps) all_taken.after.out,
          unit.0,
          further,
          rest,
        )
  ]

  -- A run that ended after its last unit has written what all units write.
  pub length-over : (bytes : List ℕ) (a : Outcome) → IsOutcome units bytes a → IsFaultless a.end → IsOver a.end → length a.out ≡ start wide units.count
  length-over bytes a runs none over =
      let goes = subst (λ l. Performs l (Continues units units.count [] 0 bytes) a) are.opens runs in
      omega (arith, goes_wide units.count [] 0 bytes a (omega arith) goes none over, start-zero wide)

  -- so has one that is done
  pub length-written : (bytes : List ℕ) (a : Outcome) → IsOutcome units bytes a → a.end ≡ Done → length a.out ≡ start wide units.count
  length-written bytes a runs done = length-over bytes a runs (subst IsFaultless (sym done) tt) (subst IsOver (sym done) tt)
