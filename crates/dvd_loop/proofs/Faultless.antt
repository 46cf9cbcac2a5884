-- What is done where no fault comes: all of the steps, and then what comes after them; how a loop ends within a unit.
use Rattle.std.proofs.Common.{◌≡◌, inl, inr, ◌⊎◌, ℕ, List, [], ◌∷◌, ◌++◌, length, refl, ap, sym, subst, ◌∙◌, append_assoc, append-nil}
use Rattle.dvd_loop.specs.Laws.{IsFaultless}
use Rattle.dvd_loop.specs.Machine.{Performs, EndsWithin, Fails, IsEndedWithin, Outcome, Step, Units, ended, stepping, taking}
use Rattle.dvd_loop.specs.Machine.Prefix.{Whole, Cut, Broken}
use Rattle.dvd_loop.specs.Machine.Step.{Write, Report}
use Rattle.dvd_loop.specs.UnitCommand.{reported, written}
use Rattle.dvd_loop.specs.declared.ends.LoopEnd.{LoopEnd}
use Rattle.dvd_loop.specs.declared.ends.LoopEnd.TheVariants.{BadMarks, ReportFault, Short, WriteFault}
use Rattle.dvd_loop.proofs.StepLemmas.{onto}

-- an outcome that ends with a fault isn't without one
pub not_by_fault : (a b : Outcome) → a ≡ b → (IsFaultless b.end → ⊥) → IsFaultless a.end → ⊥
not_by_fault a b is fault none = fault (subst (λ (o : Outcome). IsFaultless o.end) is none)

-- no step failed
abbrev pub IsNoStepFault : LoopEnd → Type 0
IsNoStepFault WriteFault = ⊥
IsNoStepFault ReportFault = ⊥
IsNoStepFault end = Unit {0}

-- where there is no fault, no step failed
no_step_fault : (end : LoopEnd) → IsFaultless end → IsNoStepFault end
no_step_fault WriteFault none = absurd none
no_step_fault ReportFault none = absurd none
no_step_fault end none = tt

-- what is after steps that were all taken
pub record AllDone (steps : List Step) (After : Outcome → Type 0) (outcome : Outcome) : Type 0 where
  pub after : Outcome
  pub holds : After after
  pub is : outcome ≡ onto [] (written steps) (reported steps) after

-- a step that was taken, and all those after it, are all taken
done_first : (step : Step) (steps : List Step) (After : Outcome → Type 0) (outcome after : Outcome) → outcome ≡ stepping step after
    → AllDone steps After after → AllDone (step ∷ steps) After outcome
done_first (Write bytes) steps After outcome after is rest = record {
  after = rest.after;
  holds = rest.holds;
  is = is ∙ ap (stepping (Write bytes)) rest.is ∙ ap (λ l. record rest.after { out = l; lines = reported steps ++ rest.after.lines }) (sym (append_assoc bytes (written steps) rest.after.out));
}
done_first (Report line) steps After outcome after is rest = record {
  after = rest.after;
  holds = rest.holds;
  is = is ∙ ap (stepping (Report line)) rest.is ∙ ap (λ l. record rest.after { out = written steps ++ rest.after.out; lines = l }) (sym (append_assoc line (reported steps) rest.after.lines));
}

-- an outcome of a step that failed ends with a fault of a step
failed_step : (step : Step) (outcome : Outcome) → Fails step outcome → IsNoStepFault outcome.end → ⊥
failed_step (Write bytes) outcome (prefix, left, whole, some, fails) none = subst (λ (o : Outcome). IsNoStepFault o.end) fails none
failed_step (Report line) outcome (prefix, left, whole, some, fails) none = subst (λ (o : Outcome). IsNoStepFault o.end) fails none

-- a step that was taken leaves the end
same_end : (step : Step) (after : Outcome) → (stepping step after).end ≡ after.end
same_end (Write bytes) after = refl
same_end (Report line) after = refl

-- where no step failed, all were taken
pub all_done_but : (steps : List Step) (After : Outcome → Type 0) (outcome : Outcome) → Performs steps After outcome → IsNoStepFault outcome.end
    → AllDone steps After outcome
all_done_but [] After outcome does none = record { after = outcome; holds = does; is = refl }
all_done_but (step ∷ steps) After outcome does none = elim does [
  | inl fails ↦ absurd (failed_step step outcome fails none)
  | inr (after, does, is) ↦ done_first step steps After outcome after is (all_done_but steps After after does (subst IsNoStepFault (ap (λ (o : Outcome). o.end) is ∙ same_end step after) none))
]

-- where there is no fault, all steps were taken
pub all_done : (steps : List Step) (After : Outcome → Type 0) (outcome : Outcome) → Performs steps After outcome → IsFaultless outcome.end
    → AllDone steps After outcome
all_done steps After outcome does none = all_done_but steps After outcome does (no_step_fault outcome.end none)

-- where there is no fault, there is none after the steps
pub faultless_after : (steps : List Step) (After : Outcome → Type 0) (outcome : Outcome) (done : AllDone steps After outcome)
    → IsFaultless outcome.end → IsFaultless done.after.end
faultless_after steps After outcome done none = subst (λ (o : Outcome). IsFaultless o.end) done.is none

-- All bytes are a part of unit k, or those in front break a rule, and there the loop ends.
abbrev pub IsShortOrBroken : Units → ℕ → List ℕ → Outcome → Type 0
IsShortOrBroken units k bytes outcome =
    ((units.begins k bytes ≡ Cut) × (outcome ≡ taking bytes (ended (Short k (length bytes)))))
    ⊎ ((at : ℕ) × (own left : List ℕ) × (bytes ≡ own ++ left) × (units.begins k own ≡ Broken at) × (outcome ≡ taking own (ended (BadMarks k at))))

-- where there is no fault, a loop that ends within unit k ends in one of these ways
pub short_or_broken : (units : Units) (k : ℕ) (bytes : List ℕ) (outcome : Outcome) → IsEndedWithin units k bytes outcome → IsFaultless outcome.end
    → IsShortOrBroken units k bytes outcome
short_or_broken units k bytes outcome w none =
    elim (units.begins k w.own) as (λ part. units.begins k w.own ≡ part → EndsWithin part k (length w.own) w.left outcome.end → IsShortOrBroken units k bytes outcome) [
      | Whole size ↦ λ begins ends. absurd ends
      | Cut ↦ λ begins ends. elim ends [
        | inr fault ↦ absurd (subst IsFaultless fault none)
        | inl (short, all) ↦
            let whole : w.own ≡ bytes = sym (w.prefix ∙ ap (λ l. w.own ++ l) all ∙ append-nil w.own) in
            inl (subst (λ l. units.begins k l ≡ Cut) whole begins, w.takes ∙ ap (λ e. taking w.own (ended e)) short ∙ ap (λ l. taking l (ended (Short k (length l)))) whole)
      ]
      | Broken at ↦ λ begins ends. elim ends [
        | inr fault ↦ absurd (subst IsFaultless fault none)
        | inl marks ↦ inr (at, w.own, w.left, w.prefix, begins, w.takes ∙ ap (λ e. taking w.own (ended e)) marks)
      ]
    ] refl w.ends
