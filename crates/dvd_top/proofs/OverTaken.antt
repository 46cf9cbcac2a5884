-- A run over some bytes is one over those of them that it took.
use Rattle.std.proofs.Common.{◌≡◌, inl, inr, ℕ, zero, suc, ◌+◌, List, [], ◌∷◌, ◌++◌, refl, ap, sym, subst}
use Rattle.dvd_capture.specs.declared.form.Form.{Form}
use Rattle.dvd_capture.specs.declared.form.Form.TheVariants.{Plain, Marked, Listed}
use Rattle.dvd_loop.specs.Machine.{Continues, ContinuesAfter, EndsAfterLast, EndsWithin, IsOutcome, Outcome, Performs, Prefix, Step, Units, bad_of, stepping}
use Rattle.dvd_loop.specs.Machine.Prefix.{Broken, Cut, Whole}
use Rattle.dvd_loop.specs.Machine.Step.{Report, Write}
use Rattle.dvd_loop.specs.declared.ends.AfterLast.{AfterLast}
use Rattle.dvd_loop.specs.declared.ends.AfterLast.TheVariants as after_last
use Rattle.dvd_loop.specs.declared.ends.LoopEnd.{LoopEnd}
use Rattle.dvd_loop.specs.declared.ends.UnitKind.{UnitKind}
use Rattle.dvd_loop.specs.declared.ends.UnitKind.TheVariants.{Bad, Good, Last}
use Rattle.dvd_commands.specs.Commands.{GoesOver, meaning}
use Rattle.dvd_commands.specs.Opening.{ComesAfterHeader, Opens}
use Rattle.dvd_words.specs.declared.settings.Settings.{Settings}
use Rattle.dvd_top.specs.Headline.{IsLoop}

-- what may come over these bytes may come over those that it took
abbrev HoldsOfTaken : (List ℕ → Outcome → Type 0) → List ℕ → Type 0
HoldsOfTaken May bytes = (a : Outcome) → May bytes a → May a.taken a

-- a step takes nothing
step_takes : (step : Step) (a after : Outcome) → a ≡ stepping step after → after.taken ≡ a.taken
step_takes (Write bytes) a after is = sym (ap (λ (o : Outcome). o.taken) is)
step_takes (Report line) a after is = sym (ap (λ (o : Outcome). o.taken) is)

-- so it is of what comes after steps
steps_over : (steps : List Step) (After : List ℕ → Outcome → Type 0) (bytes : List ℕ) → HoldsOfTaken After bytes
    → HoldsOfTaken (λ l. Performs steps (After l)) bytes
steps_over [] After bytes over a does = over a does
steps_over (step ∷ steps) After bytes over a does = elim does [
  | inl fails ↦ inl fails
  | inr (after, rest, is) ↦
      inr (after, subst (λ l. Performs steps (After l) after) (step_takes step a after is) (steps_over steps After bytes over after rest), is)
]

-- after the last unit
last_over : (rule : AfterLast) (bad : ℕ) (bytes : List ℕ) → HoldsOfTaken (EndsAfterLast rule bad) bytes
last_over after_last.Done bad bytes a is = is
last_over after_last.NoControl bad bytes a is = is
last_over after_last.EndOfInput bad [] a ends =
    let none : [] ≡ a.taken = elim ends [
      | inl is ↦ sym (ap (λ (o : Outcome). o.taken) is)
      | inr is ↦ sym (ap (λ (o : Outcome). o.taken) is)
    ] in
    subst (λ l. EndsAfterLast after_last.EndOfInput bad l a) none ends
last_over after_last.EndOfInput bad (byte ∷ left) a (inl is) =
    subst (λ l. EndsAfterLast after_last.EndOfInput bad l a) (sym (ap (λ (o : Outcome). o.taken) is)) (inl is)
last_over after_last.EndOfInput bad (byte ∷ left) a (inr is) =
    subst (λ l. EndsAfterLast after_last.EndOfInput bad l a) (sym (ap (λ (o : Outcome). o.taken) is)) (inr is)

-- within a unit nothing is left of what it took
within_over : (part : Prefix) (k held : ℕ) (left : List ℕ) (end : LoopEnd) → EndsWithin part k held left end → EndsWithin part k held [] end
within_over (Whole size) k held left end ends = ends
within_over Cut k held left end (inl (is, none)) = inl (is, refl)
within_over Cut k held left end (inr is) = inr is
within_over (Broken at) k held left end ends = ends

-- after a unit
kind_over : (kind : UnitKind) (A : List ℕ → Outcome → Type 0) (bytes : List ℕ) → HoldsOfTaken A bytes → HoldsOfTaken (λ l. ContinuesAfter kind (A l)) bytes
kind_over Good A bytes over a goes = over a goes
kind_over Bad A bytes over a goes = over a goes
kind_over Last A bytes over a is = is

module _ (units : Units) where
  -- from a unit on
  goes_over_taken : (n : ℕ) (before : List (List ℕ)) (bad : ℕ) (bytes : List ℕ) → HoldsOfTaken (Continues units n before bad) bytes
  unfolding Continues
  goes_over_taken zero before bad bytes a (steps, closes, does) =
      (steps, closes, steps_over steps (EndsAfterLast units.after_last bad) bytes (last_over units.after_last bad bytes) a does)
  goes_over_taken (suc n) before bad bytes a (inl w) = inl (record {
    own = w.own;
    left = [];
    prefix = ap (λ (o : Outcome). o.taken) w.takes;
    ends = within_over _ _ _ w.left a.end w.ends;
    takes = w.takes;
  })
  goes_over_taken (suc n) before bad bytes a (inr t) =
      let Next : List ℕ → Outcome → Type 0 = Continues units n (before ++ t.own ∷ []) (bad + bad_of t.kind) in
      inr (record {
        own = t.own;
        left = t.after.taken;
        steps = t.steps;
        kind = t.kind;
        prefix = ap (λ (o : Outcome). o.taken) t.takes;
        unit = t.unit;
        after = t.after;
        does = steps_over t.steps (λ l. ContinuesAfter t.kind (Next l)) t.left
            (kind_over t.kind Next t.left (goes_over_taken n (before ++ t.own ∷ []) (bad + bad_of t.kind) t.left)) t.after t.does;
        takes = t.takes;
      })

  -- a whole loop
  loop_over_taken : (bytes : List ℕ) → HoldsOfTaken (IsOutcome units) bytes
  loop_over_taken bytes = steps_over units.opens (Continues units units.count [] 0) bytes (goes_over_taken units.count [] 0 bytes)

-- a loop over the units of a command
command_over_taken : (settings : Settings) (bytes : List ℕ) → HoldsOfTaken (GoesOver settings) bytes
command_over_taken settings bytes a (subject, is_subject, runs) =
    (subject, is_subject, loop_over_taken ((meaning settings.command).units settings subject) bytes a runs)

-- what comes after a header
after_over : (settings : Settings) (own left : List ℕ) (after : Outcome) → ComesAfterHeader GoesOver settings own left after
    → ComesAfterHeader GoesOver settings own after.taken after
after_over settings own left after (inl (fewer, inl (none, is))) = inl (fewer, inl (ap (λ (o : Outcome). o.taken) is, is))
after_over settings own left after (inl (fewer, inr is)) = inl (fewer, inr is)
after_over settings own left after (inr (full, inl broken)) = inr (full, inl broken)
after_over settings own left after (inr (full, inr (stated, header, valid, goes))) =
    inr (full, inr (stated, header, valid, command_over_taken stated left after goes))

-- and so it is with a header and without one
opens_over_taken : (form : Form) (settings : Settings) (bytes : List ℕ) → HoldsOfTaken (Opens form GoesOver settings) bytes
opens_over_taken Plain settings bytes a goes = command_over_taken settings bytes a goes
opens_over_taken Marked settings bytes a goes = command_over_taken settings bytes a goes
opens_over_taken Listed settings bytes a o = record {
  own = o.own;
  left = o.after.taken;
  prefix = ap (λ (x : Outcome). x.taken) o.takes;
  after = o.after;
  comes = after_over settings o.own o.left o.after o.comes;
  takes = o.takes;
}

-- What the loop did for an input is what it does for the bytes of it that were read.
pub over_taken : (settings : Settings) (bytes : List ℕ) (loop : Outcome) → IsLoop settings bytes loop → IsLoop settings loop.taken loop
over_taken settings bytes loop runs = opens_over_taken settings.form settings bytes loop runs
