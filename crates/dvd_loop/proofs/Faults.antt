-- What a fault leaves: after a failed read, what the end of the input there would leave; after any fault, prefixes.
use Rattle.std.proofs.Common.{◌≡◌, inl, inr, ℕ, zero, suc, ◌+◌, List, [], ◌∷◌, ◌++◌, length, refl, ap, sym, subst, ◌∙◌, append_assoc, append-nil, arith}
use Rattle.dvd_loop.specs.Laws.{AreTotal, FaultsLeavePrefixes, IsFaultless, IsPrefixOf, ReadFaultEndsInput}
use Rattle.dvd_loop.specs.Machine.{Performs, EndsAfterLast, EndsWithin, Fails, Continues, ContinuesAfter, IsEndedWithin, Outcome, Prefix, Step, Units, bad_of, end_by, ended, stepping, taking}
use Rattle.dvd_loop.specs.Machine.Prefix.{Whole, Cut, Broken}
use Rattle.dvd_loop.specs.Machine.Step.{Write, Report}
use Rattle.dvd_loop.specs.UnitCommand.{reported, written}
use Rattle.dvd_loop.specs.declared.ends.AfterLast.{AfterLast}
use Rattle.dvd_loop.specs.declared.ends.AfterLast.TheVariants as after_last
use Rattle.dvd_loop.specs.declared.ends.LoopEnd.{LoopEnd}
use Rattle.dvd_loop.specs.declared.ends.LoopEnd.TheVariants.{BadMarks, Done, Long, NoControl, ReadFault, ReportFault, Short, WriteFault}
use Rattle.dvd_loop.specs.declared.ends.UnitKind.{UnitKind}
use Rattle.dvd_loop.specs.declared.ends.UnitKind.TheVariants.{Good, Bad, Last}
use Rattle.dvd_loop.proofs.Faultless.{IsNoStepFault, all_done_but}
use Rattle.dvd_loop.proofs.StepLemmas.{does_all, onto, taken_then}
use Rattle.dvd_loop.proofs.Totality.{Exists, all_exist, behind_exists, end_by_none, goes_exist, one_fewer, steps_exist, kinds_exist}

-- an outcome over the bytes that were taken, which no fault ends: it takes, writes and reports as much
pub record EndsAsTaken (A : List ℕ → Outcome → Type 0) (a : Outcome) : Type 0 where
  pub outcome : Outcome
  pub holds : A a.taken outcome
  pub faultless : IsFaultless outcome.end
  pub taken : outcome.taken ≡ a.taken
  pub out : outcome.out ≡ a.out
  pub lines : outcome.lines ≡ a.lines

-- a run over these bytes that a failed read ended has done what one does whose input ends there
abbrev LeaveThat : (List ℕ → Outcome → Type 0) → List ℕ → Type 0
LeaveThat A bytes = (a : Outcome) → A bytes a → a.end ≡ ReadFault → EndsAsTaken A a

-- what holds of an equal outcome holds of this one
there_as : (A : List ℕ → Outcome → Type 0) (a x : Outcome) → a ≡ x → EndsAsTaken A x → EndsAsTaken A a
there_as A a x is there = subst (EndsAsTaken A) (sym is) there

-- an outcome there is one of a wider kind too
there_by : (A B : List ℕ → Outcome → Type 0) (a : Outcome) → ((o : Outcome) → A a.taken o → B a.taken o) → EndsAsTaken A a → EndsAsTaken B a
there_by A B a to there = record {
  outcome = there.outcome;
  holds = to there.outcome there.holds;
  faultless = there.faultless;
  taken = there.taken;
  out = there.out;
  lines = there.lines;
}

-- so it is with steps before it
steps_there : (steps : List Step) (A : List ℕ → Outcome → Type 0) (bytes : List ℕ) → LeaveThat A bytes → LeaveThat (λ l. Performs steps (A l)) bytes
steps_there steps A bytes leaves a does fault =
    let done = all_done_but steps (A bytes) a does (subst IsNoStepFault (sym fault) tt) in
    let there = leaves done.after done.holds (sym (ap (λ (o : Outcome). o.end) done.is) ∙ fault) in
    there_as (λ l. Performs steps (A l)) a (onto [] (written steps) (reported steps) done.after) done.is (record {
      outcome = onto [] (written steps) (reported steps) there.outcome;
      holds = does_all steps (A done.after.taken) there.outcome there.holds;
      faultless = there.faultless;
      taken = there.taken;
      out = ap (λ l. written steps ++ l) there.out;
      lines = ap (λ l. reported steps ++ l) there.lines;
    })

-- and with a unit before it, whether that was the last or not
kinds_there : (kind : UnitKind) (A : List ℕ → Outcome → Type 0) (bytes : List ℕ) → LeaveThat A bytes → LeaveThat (λ l. ContinuesAfter kind (A l)) bytes
kinds_there Good A bytes leaves a goes fault = leaves a goes fault
kinds_there Bad A bytes leaves a goes fault = leaves a goes fault
kinds_there Last A bytes leaves a is fault = absurd (let no : Done ≡ ReadFault = sym (ap (λ (o : Outcome). o.end) is) ∙ fault in cc)

-- the failed read of one byte more is as the end of the input there
no_byte : (bad : ℕ) → EndsAsTaken (EndsAfterLast after_last.EndOfInput bad) (ended ReadFault)
no_byte bad = record {
  outcome = ended (end_by bad);
  holds = inl refl;
  faultless = end_by_none bad;
  taken = refl;
  out = refl;
  lines = refl;
}

-- the end of an input isn't a failed read
end_by_not : (bad : ℕ) → end_by bad ≡ ReadFault → ⊥
end_by_not zero is = cc
end_by_not (suc bad) is = cc

-- so it is after the last unit
behind_there : (rule : AfterLast) (bad : ℕ) (bytes : List ℕ) → LeaveThat (EndsAfterLast rule bad) bytes
behind_there after_last.Done bad bytes a is fault = absurd (let no : Done ≡ ReadFault = sym (ap (λ (o : Outcome). o.end) is) ∙ fault in cc)
behind_there after_last.NoControl bad bytes a is fault = absurd (let no : NoControl ≡ ReadFault = sym (ap (λ (o : Outcome). o.end) is) ∙ fault in cc)
behind_there after_last.EndOfInput bad [] a ends fault = elim ends [
  | inl is ↦ absurd (end_by_not bad (sym (ap (λ (o : Outcome). o.end) is) ∙ fault))
  | inr is ↦ there_as (EndsAfterLast after_last.EndOfInput bad) a (ended ReadFault) is (no_byte bad)
]
behind_there after_last.EndOfInput bad (byte ∷ left) a ends fault = elim ends [
  | inl is ↦ absurd (let no : Long ≡ ReadFault = sym (ap (λ (o : Outcome). o.end) is) ∙ fault in cc)
  | inr is ↦ there_as (EndsAfterLast after_last.EndOfInput bad) a (ended ReadFault) is (no_byte bad)
]

module _ (units : Units) where
  -- a failed read within unit k leaves what the end of the input there would leave
  within_there : (k : ℕ) (bytes : List ℕ) → LeaveThat (IsEndedWithin units k) bytes
  within_there k bytes a w fault =
      let P = IsEndedWithin units k in
      let there : (end : LoopEnd) → EndsWithin (units.begins k w.own) k (length w.own) [] end → IsFaultless end → EndsAsTaken P a =
      λ end ends none. there_as P a (taking w.own (ended a.end)) w.takes (record {
        outcome = taking w.own (ended end);
        holds = record { own = w.own; left = []; prefix = refl; ends = ends; takes = refl };
        faultless = none;
        taken = refl;
        out = refl;
        lines = refl;
      }) in
      let Ends : Prefix → List ℕ → LoopEnd → Type 0 = λ part left end. EndsWithin part k (length w.own) left end in
      elim (units.begins k w.own) as (λ part. Ends part w.left a.end → ((end : LoopEnd) → Ends part [] end → IsFaultless end → EndsAsTaken P a) → EndsAsTaken P a) [
        | Whole size ↦ λ ends by. absurd ends
        | Cut ↦ λ ends by. by (Short k (length w.own)) (inl (refl, refl)) tt
        | Broken at ↦ λ ends by. by (BadMarks k at) (inl refl) tt
      ] w.ends there

  -- with n units to come, a failed read leaves what the end of the input there would leave
  goes_there : (n : ℕ) (before : List (List ℕ)) (bad : ℕ) (bytes : List ℕ) → LeaveThat (Continues units n before bad) bytes
  unfolding Continues
  goes_there zero before bad bytes a (steps, closes, does) fault =
      there_by (λ l. Performs steps (EndsAfterLast units.after_last bad l)) (Continues units zero before bad) a (λ o rest. (steps, closes, rest))
      (steps_there steps (EndsAfterLast units.after_last bad) bytes (behind_there units.after_last bad bytes) a does fault)
  goes_there (suc n) before bad bytes a goes fault = elim goes [
    | inl w ↦ there_by (IsEndedWithin units (length before)) (Continues units (suc n) before bad) a (λ o within. inl within) (within_there (length before) bytes a w fault)
    | inr t ↦
        let Next : List ℕ → Outcome → Type 0 = Continues units n (before ++ t.own ∷ []) (bad + bad_of t.kind) in
        let there = steps_there t.steps (λ l. ContinuesAfter t.kind (Next l)) t.left (kinds_there t.kind Next t.left (goes_there n (before ++ t.own ∷ []) (bad + bad_of t.kind) t.left)) t.after t.does
        (sym (ap (λ (o : Outcome). o.end) t.takes) ∙ fault) in
        there_as (Continues units (suc n) before bad) a (taking t.own t.after) t.takes (record {
          outcome = taking t.own there.outcome;
          holds = inr (taken_then units before _ (t.own ++ t.after.taken) t.own t.after.taken t.steps t.kind _ there.outcome refl t.unit there.holds refl);
          faultless = there.faultless;
          taken = ap (λ l. t.own ++ l) there.taken;
          out = there.out;
          lines = there.lines;
        })
  ]

-- after a fault of the source all is as if the input had ended there
pub ends_there : (units : Units) → ReadFaultEndsInput units
ends_there units bytes a runs fault =
    let there = steps_there units.opens (Continues units units.count [] 0) bytes (goes_there units units.count [] 0 bytes) a runs fault in
    (there.outcome, there.holds, there.faultless, there.taken, there.out, there.lines)

-- an outcome without a fault of which this one has fronts
pub record Beyond (A : Outcome → Type 0) (a : Outcome) : Type 0 where
  pub outcome : Outcome
  pub holds : A outcome
  pub faultless : IsFaultless outcome.end
  pub out : IsPrefixOf a.out outcome.out
  pub lines : IsPrefixOf a.lines outcome.lines

-- each outcome has its fronts of one without a fault
abbrev LeavePrefixes : (Outcome → Type 0) → Type 0
LeavePrefixes A = (a : Outcome) → A a → Beyond A a

-- what holds of an equal outcome holds of this one
beyond_as : (A : Outcome → Type 0) (a x : Outcome) → a ≡ x → Beyond A x → Beyond A a
beyond_as A a x is beyond = subst (Beyond A) (sym is) beyond

-- nothing is a front of anything
beyond_none : (A : Outcome → Type 0) (a : Outcome) → Exists A → a.out ≡ [] → a.lines ≡ [] → Beyond A a
beyond_none A a (outcome, holds, none) out lines = record {
  outcome = outcome;
  holds = holds;
  faultless = none;
  out = (outcome.out, ap (λ l. l ++ outcome.out) (sym out));
  lines = (outcome.lines, ap (λ l. l ++ outcome.lines) (sym lines));
}

-- a front, with the same bytes before both, is a front still
prefix_longer : (own prefix whole : List ℕ) → IsPrefixOf prefix whole → IsPrefixOf (own ++ prefix) (own ++ whole)
prefix_longer own prefix whole (left, is) = (left, ap (λ l. own ++ l) is ∙ sym (append_assoc own prefix left))

-- what was done of a step that failed, with nothing after it
prefix_cut : (own prefix left more : List ℕ) → own ≡ prefix ++ left → IsPrefixOf (prefix ++ []) (own ++ more)
prefix_cut own prefix left more is = (left ++ more, ap (λ l. l ++ more) is ∙ append_assoc prefix left more ∙ ap (λ l. l ++ (left ++ more)) (sym (append-nil prefix)))

-- the step was taken, and then what came after
abbrev Stepped : Step → (Outcome → Type 0) → Outcome → Type 0
Stepped step After outcome = (after : Outcome) × After after × (outcome ≡ stepping step after)

-- a step that failed has done a front of what it does when it is taken
failed_beyond : (step : Step) (After : Outcome → Type 0) (a : Outcome) → Fails step a → Exists After → Beyond (Stepped step After) a
failed_beyond (Write bytes) After a (prefix, left, whole, some, fails) (after, holds, none) =
    beyond_as _ a (stepping (Write prefix) (ended WriteFault)) fails (record {
      outcome = stepping (Write bytes) after;
      holds = (after, holds, refl);
      faultless = none;
      out = prefix_cut bytes prefix left after.out whole;
      lines = (after.lines, refl);
    })
failed_beyond (Report line) After a (prefix, left, whole, some, fails) (after, holds, none) =
    beyond_as _ a (stepping (Report prefix) (ended ReportFault)) fails (record {
      outcome = stepping (Report line) after;
      holds = (after, holds, refl);
      faultless = none;
      out = (after.out, refl);
      lines = prefix_cut line prefix left after.lines whole;
    })

-- after a step that was taken there are fronts as before
stepped_beyond : (step : Step) (After : Outcome → Type 0) (after : Outcome) → Beyond After after → Beyond (Stepped step After) (stepping step after)
stepped_beyond (Write bytes) After after beyond = record {
  outcome = stepping (Write bytes) beyond.outcome;
  holds = (beyond.outcome, beyond.holds, refl);
  faultless = beyond.faultless;
  out = prefix_longer bytes after.out beyond.outcome.out beyond.out;
  lines = beyond.lines;
}
stepped_beyond (Report line) After after beyond = record {
  outcome = stepping (Report line) beyond.outcome;
  holds = (beyond.outcome, beyond.holds, refl);
  faultless = beyond.faultless;
  out = beyond.out;
  lines = prefix_longer line after.lines beyond.outcome.lines beyond.lines;
}

-- an outcome beyond is one of a wider kind too
beyond_by : (A B : Outcome → Type 0) (a : Outcome) → ((o : Outcome) → A o → B o) → Beyond A a → Beyond B a
beyond_by A B a to beyond = record { outcome = beyond.outcome; holds = to beyond.outcome beyond.holds; faultless = beyond.faultless; out = beyond.out; lines = beyond.lines }

-- steps leave fronts where what comes after them does
steps_beyond : (steps : List Step) (A : Outcome → Type 0) → Exists A → LeavePrefixes A → LeavePrefixes (Performs steps A)
steps_beyond [] A exists leaves a does = leaves a does
steps_beyond (step ∷ steps) A exists leaves a does = elim does [
  | inl fails ↦ beyond_by _ (Performs (step ∷ steps) A) a (λ o is. inr is) (failed_beyond step (Performs steps A) a fails (steps_exist steps A exists))
  | inr (after, does, is) ↦
      beyond_as (Performs (step ∷ steps) A) a (stepping step after) is
      (beyond_by _ (Performs (step ∷ steps) A) (stepping step after) (λ o is. inr is) (stepped_beyond step (Performs steps A) after (steps_beyond steps A exists leaves after does)))
]

-- whether the unit was the last or not, fronts are left where the units to come leave them
kinds_beyond : (kind : UnitKind) (A : Outcome → Type 0) → LeavePrefixes A → LeavePrefixes (ContinuesAfter kind A)
kinds_beyond Good A leaves a goes = leaves a goes
kinds_beyond Bad A leaves a goes = leaves a goes
kinds_beyond Last A leaves a is = beyond_as (ContinuesAfter Last A) a (ended Done) is (record { outcome = ended Done; holds = refl; faultless = tt; out = ([], refl); lines = ([], refl) })

-- after the last unit nothing is written or reported
pub nothing_after : (rule : AfterLast) (bad : ℕ) (left : List ℕ) (a : Outcome) → EndsAfterLast rule bad left a → (a.out ≡ []) × (a.lines ≡ [])
nothing_after after_last.Done bad left a is = (ap (λ (o : Outcome). o.out) is, ap (λ (o : Outcome). o.lines) is)
nothing_after after_last.NoControl bad left a is = (ap (λ (o : Outcome). o.out) is, ap (λ (o : Outcome). o.lines) is)
nothing_after after_last.EndOfInput bad [] a ends = elim ends [
  | inl is ↦ (ap (λ (o : Outcome). o.out) is, ap (λ (o : Outcome). o.lines) is)
  | inr is ↦ (ap (λ (o : Outcome). o.out) is, ap (λ (o : Outcome). o.lines) is)
]
nothing_after after_last.EndOfInput bad (byte ∷ left) a ends = elim ends [
  | inl is ↦ (ap (λ (o : Outcome). o.out) is, ap (λ (o : Outcome). o.lines) is)
  | inr is ↦ (ap (λ (o : Outcome). o.out) is, ap (λ (o : Outcome). o.lines) is)
]

module _ (units : Units) (total : AreTotal units) where
  -- with n units to come, any outcome has fronts of one without a fault
  goes_beyond : (n : ℕ) (before : List (List ℕ)) (bad : ℕ) (bytes : List ℕ) → length before + n ≡ units.count
      → LeavePrefixes (Continues units n before bad bytes)
  unfolding Continues
  goes_beyond zero before bad bytes all a (steps, closes, does) =
      beyond_by (Performs steps (EndsAfterLast units.after_last bad bytes)) (Continues units zero before bad bytes) a (λ o rest. (steps, closes, rest))
      (steps_beyond steps (EndsAfterLast units.after_last bad bytes) (behind_exists units.after_last bad bytes)
      (λ o ends. let none = nothing_after units.after_last bad bytes o ends in beyond_none (EndsAfterLast units.after_last bad bytes) o (behind_exists units.after_last bad bytes) none.0 none.1)
      a does)
  goes_beyond (suc n) before bad bytes all a goes = elim goes [
    | inl w ↦
        let exists = goes_exist units total (suc n) before bad bytes all in
        beyond_none (Continues units (suc n) before bad bytes) a exists (ap (λ (o : Outcome). o.out) w.takes) (ap (λ (o : Outcome). o.lines) w.takes)
    | inr t ↦
        let Next = Continues units n (before ++ t.own ∷ []) (bad + bad_of t.kind) t.left in
        let fewer = one_fewer before t.own n units.count all in
        let beyond = steps_beyond t.steps (ContinuesAfter t.kind Next) (kinds_exist t.kind Next (goes_exist units total n (before ++ t.own ∷ []) (bad + bad_of t.kind) t.left fewer))
        (kinds_beyond t.kind Next (goes_beyond n (before ++ t.own ∷ []) (bad + bad_of t.kind) t.left fewer)) t.after t.does in
        beyond_as (Continues units (suc n) before bad bytes) a (taking t.own t.after) t.takes (record {
          outcome = taking t.own beyond.outcome;
          holds = inr (taken_then units before _ bytes t.own t.left t.steps t.kind _ beyond.outcome t.prefix t.unit beyond.holds refl);
          faultless = beyond.faultless;
          out = beyond.out;
          lines = beyond.lines;
        })
  ]

-- after any fault output and report have fronts of what they would have without one
pub leave_prefixes : (units : Units) → FaultsLeavePrefixes units
leave_prefixes units total bytes a runs =
    let beyond = steps_beyond units.opens (Continues units units.count [] 0 bytes) (all_exist units total bytes) (goes_beyond units total units.count [] 0 bytes (omega arith)) a runs in
    (beyond.outcome, beyond.holds, beyond.faultless, beyond.out, beyond.lines)
