-- The same units and bytes come to one outcome, where no fault comes.
use Rattle.std.proofs.Common.{◌≡◌, inl, inr, ◌⊎◌, ℕ, zero, suc, ◌+◌, List, [], ◌∷◌, ◌++◌, length, refl, ap, sym, subst, ◌∙◌}
use Rattle.dvd_loop.specs.Laws.{AreDetermined, IsFaultless, IsNotBadMarks, OutcomesAgree}
use Rattle.dvd_loop.specs.Machine.{Performs, EndsAfterLast, Continues, ContinuesAfter, IsTaken, IsUnit, IsEndedWithin, Outcome, Step, Units, bad_of, end_by, ended, taking}
use Rattle.dvd_loop.specs.Machine.Prefix.{Whole, Cut, Broken}
use Rattle.dvd_loop.specs.UnitCommand.{reported, written}
use Rattle.dvd_loop.specs.declared.ends.AfterLast.{AfterLast}
use Rattle.dvd_loop.specs.declared.ends.AfterLast.TheVariants as after_last
use Rattle.dvd_loop.specs.declared.ends.LoopEnd.TheVariants.{BadMarks, Long, ReadFault}
use Rattle.dvd_loop.specs.declared.ends.UnitKind.{UnitKind}
use Rattle.dvd_loop.specs.declared.ends.UnitKind.TheVariants.{Good, Bad, Last}
use Rattle.dvd_loop.proofs.Faultless.{all_done, faultless_after, not_by_fault, short_or_broken}
use Rattle.dvd_loop.proofs.Prefixes.{same_prefix, same_left}
use Rattle.dvd_loop.proofs.StepLemmas.{onto}

-- They are one, but for what was taken of a unit that breaks a rule.
pub record Agree (a b : Outcome) : Type 0 where
  pub out : a.out ≡ b.out
  pub lines : a.lines ≡ b.lines
  pub end : a.end ≡ b.end
  pub taken : IsNotBadMarks a.end → a.taken ≡ b.taken

-- any two outcomes of two kinds agree, where no fault ended them
abbrev AllAgree : (Outcome → Type 0) → (Outcome → Type 0) → Type 0
AllAgree A B = (a b : Outcome) → A a → B b → IsFaultless a.end → IsFaultless b.end → Agree a b

-- equal outcomes agree
same_agree : (a b : Outcome) → a ≡ b → Agree a b
same_agree a b is = record {
  out = ap (λ (o : Outcome). o.out) is;
  lines = ap (λ (o : Outcome). o.lines) is;
  end = ap (λ (o : Outcome). o.end) is;
  taken = λ not. ap (λ (o : Outcome). o.taken) is;
}

-- outcomes that agree do so after the same bytes and steps
onto_agree : (own w t : List ℕ) (a b : Outcome) → Agree a b → Agree (onto own w t a) (onto own w t b)
onto_agree own w t a b agree = record {
  out = ap (λ l. w ++ l) agree.out;
  lines = ap (λ l. t ++ l) agree.lines;
  end = agree.end;
  taken = λ not. ap (λ l. own ++ l) (agree.taken not);
}

-- outcomes equal to two that agree do agree
agree_as : (a b x y : Outcome) → a ≡ x → b ≡ y → Agree x y → Agree a b
agree_as a b x y p q agree = subst (λ o. Agree o b) (sym p) (subst (Agree x) (sym q) agree)

-- outcomes after the same steps agree where those after all steps do
steps_agree : (steps : List Step) (A B : Outcome → Type 0) → AllAgree A B → AllAgree (Performs steps A) (Performs steps B)
steps_agree steps A B agree a b does others p q =
    let x = all_done steps A a does p in
    let y = all_done steps B b others q in
    agree_as a b _ _ x.is y.is (onto_agree [] (written steps) (reported steps) x.after y.after (agree x.after y.after x.holds y.holds (faultless_after steps A a x p) (faultless_after steps B b y q)))

-- whether the unit was the last or not, outcomes after it agree where those of the units to come do
kinds_agree : (kind : UnitKind) (A : Outcome → Type 0) → AllAgree A A → AllAgree (ContinuesAfter kind A) (ContinuesAfter kind A)
kinds_agree Good A agree = agree
kinds_agree Bad A agree = agree
kinds_agree Last A agree = λ a b p q none other. same_agree a b (p ∙ sym q)

-- outcomes each of which is that one or a failed read agree where no fault ended them
by_no_fault : (x a b : Outcome) → (a ≡ x) ⊎ (a ≡ ended ReadFault) → (b ≡ x) ⊎ (b ≡ ended ReadFault) → IsFaultless a.end → IsFaultless b.end
    → Agree a b
by_no_fault x a b p q none other = elim p [
  | inr fault ↦ absurd (not_by_fault a _ fault (λ f. f) none)
  | inl is ↦ elim q [
    | inr fault ↦ absurd (not_by_fault b _ fault (λ f. f) other)
    | inl same ↦ same_agree a b (is ∙ sym same)
  ]
]

-- outcomes after the last unit agree
behind_agree : (rule : AfterLast) (bad : ℕ) (left : List ℕ) → AllAgree (EndsAfterLast rule bad left) (EndsAfterLast rule bad left)
behind_agree after_last.Done bad left a b p q none other = same_agree a b (p ∙ sym q)
behind_agree after_last.NoControl bad left a b p q none other = same_agree a b (p ∙ sym q)
behind_agree after_last.EndOfInput bad [] a b p q none other = by_no_fault (ended (end_by bad)) a b p q none other
behind_agree after_last.EndOfInput bad (byte ∷ left) a b p q none other = by_no_fault (taking (byte ∷ []) (ended Long)) a b p q none other

module _ (units : Units) (det : AreDetermined units) where
  -- bytes that break a rule in front break it in all
  all_broken : (k at : ℕ) (bytes own left : List ℕ) → bytes ≡ own ++ left → units.begins k own ≡ Broken at → units.begins k bytes ≡ Broken at
  all_broken k at bytes own left prefix broken = subst (λ l. units.begins k l ≡ Broken at) (sym prefix) (det.broken k at own left broken)

  -- two loops that end within unit k of the same bytes agree: both are short, or both stop at the same broken place
  within_agree : (k : ℕ) (bytes : List ℕ) → AllAgree (IsEndedWithin units k bytes) (IsEndedWithin units k bytes)
  within_agree k bytes a b w v none other =
      elim (short_or_broken units k bytes a w none) [
        | inl (cut, is) ↦ elim (short_or_broken units k bytes b v other) [
          | inl (same, so) ↦ same_agree a b (is ∙ sym so)
          | inr (at, own, left, prefix, broken, so) ↦ absurd (let no : Cut ≡ Broken at = sym cut ∙ all_broken k at bytes own left prefix broken in cc)
        ]
        | inr (at, own, left, prefix, broken, is) ↦
            let all = all_broken k at bytes own left prefix broken in
            elim (short_or_broken units k bytes b v other) [
              | inl (cut, so) ↦ absurd (let no : Cut ≡ Broken at = sym cut ∙ all in cc)
              | inr (place, held, rest, second, same, so) ↦ agree_as a b _ _ is so (record {
                out = refl;
                lines = refl;
                end = ap (λ n. BadMarks k n) (let is : Broken at ≡ Broken place = sym all ∙ all_broken k place bytes held rest second same in cc);
                taken = λ not. absurd not;
              })
            ]
      ]

  -- bytes with a whole unit in front begin with it
  whole_unit : (k : ℕ) (bytes own left : List ℕ) → bytes ≡ own ++ left → units.begins k own ≡ Whole (length own)
      → units.begins k bytes ≡ Whole (length own)
  whole_unit k bytes own left prefix whole = subst (λ l. units.begins k l ≡ Whole (length own)) (sym prefix) (det.whole k own left whole)

  -- bytes that begin with a whole unit k don't end within it
  not_both : {A : Type 0} (k : ℕ) (bytes own left : List ℕ) (a : Outcome) → IsEndedWithin units k bytes a → IsFaultless a.end
      → bytes ≡ own ++ left → units.begins k own ≡ Whole (length own) → A
  not_both k bytes own left a w none prefix whole =
      let all = whole_unit k bytes own left prefix whole in
      elim (short_or_broken units k bytes a w none) [
        | inl (cut, is) ↦ absurd (let no : Cut ≡ Whole (length own) = sym cut ∙ all in cc)
        | inr (at, held, rest, second, broken, is) ↦ absurd (let no : Broken at ≡ Whole (length own) = sym (all_broken k at bytes held rest second broken) ∙ all in cc)
      ]

  -- one unit alone is taken, and one thing done for it
  taken_agree : (before : List (List ℕ)) (After : List ℕ → List ℕ → UnitKind → Outcome → Type 0)
      → ((own left : List ℕ) (kind : UnitKind) → AllAgree (After own left kind) (After own left kind))
      → (bytes : List ℕ) → AllAgree (IsTaken units before After bytes) (IsTaken units before After bytes)
  taken_agree before After agree bytes a b t s none other =
      let whole = whole_unit (length before) bytes t.own t.left t.prefix t.unit.whole in
      let so = whole_unit (length before) bytes s.own s.left s.prefix s.unit.whole in
      let same : length t.own ≡ length s.own = (let is : Whole (length t.own) ≡ Whole (length s.own) = sym whole ∙ so in cc) in
      let own = same_prefix t.own s.own t.left s.left (sym t.prefix ∙ s.prefix) same in
      let left = same_left t.own s.own t.left s.left (sym t.prefix ∙ s.prefix) own in
      let does = det.does before t.own t.steps s.steps t.kind s.kind t.unit (subst (λ l. IsUnit units before l s.steps s.kind) (sym own) s.unit) in
      let others : Performs t.steps (After t.own t.left t.kind) s.after =
      subst (λ l. Performs t.steps (After l t.left t.kind) s.after) (sym own) (subst (λ l. Performs t.steps (After s.own l t.kind) s.after) (sym left)
      (subst (λ u. Performs t.steps (After s.own s.left u) s.after) (sym does.1) (subst (λ l. Performs l (After s.own s.left s.kind) s.after) (sym does.0) s.does))) in
      agree_as a b _ _ t.takes (s.takes ∙ ap (λ l. taking l s.after) (sym own)) (onto_agree t.own [] [] t.after s.after
      (steps_agree t.steps (After t.own t.left t.kind) (After t.own t.left t.kind) (agree t.own t.left t.kind) t.after s.after t.does others
      (subst (λ (o : Outcome). IsFaultless o.end) t.takes none) (subst (λ (o : Outcome). IsFaultless o.end) s.takes other)))

  -- with n units to come, two outcomes over the same bytes agree
  goes_agree : (n : ℕ) (before : List (List ℕ)) (bad : ℕ) (bytes : List ℕ) → AllAgree (Continues units n before bad bytes) (Continues units n before bad bytes)
  unfolding Continues
  goes_agree zero before bad bytes a b (steps, closes, does) (others, closing, rest) none other =
      steps_agree steps (EndsAfterLast units.after_last bad bytes) (EndsAfterLast units.after_last bad bytes) (behind_agree units.after_last bad bytes) a b does
      (subst (λ l. Performs l (EndsAfterLast units.after_last bad bytes) b) (sym (det.closes before steps others closes closing)) rest) none other
  goes_agree (suc n) before bad bytes a b goes others none other = elim goes [
    | inl w ↦ elim others [
      | inl v ↦ within_agree (length before) bytes a b w v none other
      | inr s ↦ not_both (length before) bytes s.own s.left a w none s.prefix s.unit.whole
    ]
    | inr t ↦ elim others [
      | inl v ↦ not_both (length before) bytes t.own t.left b v other t.prefix t.unit.whole
      | inr s ↦ taken_agree before (λ own left kind. ContinuesAfter kind (Continues units n (before ++ own ∷ []) (bad + bad_of kind) left))
          (λ own left kind. kinds_agree kind (Continues units n (before ++ own ∷ []) (bad + bad_of kind) left) (goes_agree n (before ++ own ∷ []) (bad + bad_of kind) left)) bytes a b t s none other
    ]
  ]

-- the same units and bytes come to one outcome
pub agrees : (units : Units) → OutcomesAgree units
agrees units det bytes a b p q none other =
    let same = steps_agree units.opens (Continues units units.count [] 0 bytes) (Continues units units.count [] 0 bytes) (goes_agree units det units.count [] 0 bytes) a b p q none other in
    (same.out, same.lines, same.end, same.taken)
