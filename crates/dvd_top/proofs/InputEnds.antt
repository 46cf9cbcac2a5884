-- Where a run met the end of its input, its reads returned all of it.
use Rattle.std.proofs.Common.{◌≡◌, ◌≢◌, ◌∙◌, inl, inr, ℕ, zero, suc, ◌+◌, List, [], ◌∷◌, ◌++◌, Option, None, Some, refl, ap, sym, subst, append-nil}
use Rattle.dvd_capture.specs.declared.form.Form.{Form}
use Rattle.dvd_capture.specs.declared.form.Form.TheVariants.{Plain, Marked, Listed}
use Rattle.dvd_decoding.specs.declared.cause.Cause.{Cause}
use Rattle.dvd_loop.specs.Laws.{IsNever}
use Rattle.dvd_loop.specs.Machine.{Continues, ContinuesAfter, EndsAfterLast, EndsWithin, Fails, IsOutcome, Outcome, Performs, Prefix, Step, Units, bad_of, stepping}
use Rattle.dvd_loop.specs.Machine.Prefix.{Broken, Cut, Whole}
use Rattle.dvd_loop.specs.Machine.Step.{Report, Write}
use Rattle.dvd_loop.specs.declared.ends.AfterLast.{AfterLast}
use Rattle.dvd_loop.specs.declared.ends.AfterLast.TheVariants as after_last
use Rattle.dvd_loop.specs.declared.ends.LoopEnd.{LoopEnd}
use Rattle.dvd_loop.specs.declared.ends.LoopEnd.TheVariants.{Damaged, Done, Short, ShortHeader}
use Rattle.dvd_loop.specs.declared.ends.UnitKind.{UnitKind}
use Rattle.dvd_loop.specs.declared.ends.UnitKind.TheVariants.{Bad, Good, Last}
use Rattle.dvd_commands.specs.Commands.{GoesOver, meaning}
use Rattle.dvd_commands.specs.Opening.{Opens}
use Rattle.dvd_commands.specs.Survey.{kind_by}
use Rattle.dvd_commands.specs.Deep.{IsDeepened}
use Rattle.dvd_commands.specs.Recover.{IsRecovered}
use Rattle.dvd_commands.proofs.RecoveredWidths.{deepened-wide, never_last, recovered-wide}
use Rattle.dvd_words.specs.declared.settings.Settings.{Settings}
use Rattle.dvd_words.specs.declared.table.Command.{Command}
use Rattle.dvd_words.specs.declared.table.Command.TheVariants as command
use Rattle.dvd_top.specs.Headline.{InputEnded, IsLoop}
use Rattle.dvd_top.proofs.OpenedRuns.{stated-command}

-- How a loop ended that met the end of its input; after the last unit it asks for it where this holds.
abbrev MetEnd : Type 0 → LoopEnd → Type 0
MetEnd Asks (Short unit bytes) = Unit {0}
MetEnd Asks (ShortHeader bytes) = Unit {0}
MetEnd Asks (Damaged bad) = Unit {0}
MetEnd Asks Done = Asks
MetEnd Asks other = ⊥

-- one of these outcomes that met the end took these bytes
abbrev TakesAll : Type 0 → List ℕ → (Outcome → Type 0) → Type 0
TakesAll Asks bytes May = (a : Outcome) → May a → MetEnd Asks a.end → a.taken ≡ bytes

module _ (Asks : Type 0) where
  -- an outcome that is another has met the end where that has
  met_as : (a b : Outcome) → a ≡ b → MetEnd Asks a.end → MetEnd Asks b.end
  met_as a b is met = subst (λ (o : Outcome). MetEnd Asks o.end) is met

  -- and takes the same
  takes_as : (a b : Outcome) (bytes : List ℕ) → a ≡ b → b.taken ≡ bytes → a.taken ≡ bytes
  takes_as a b bytes is all = ap (λ (o : Outcome). o.taken) is ∙ all

  -- a step that failed ends it otherwise
  not_failed : (step : Step) (a : Outcome) → Fails step a → MetEnd Asks a.end → ⊥
  not_failed (Write bytes) a (prefix, left, whole, some, is) met = met_as a _ is met
  not_failed (Report line) a (prefix, left, whole, some, is) met = met_as a _ is met

  -- a step takes nothing
  step_takes : (step : Step) (a after : Outcome) (bytes : List ℕ) → a ≡ stepping step after → (MetEnd Asks after.end → after.taken ≡ bytes)
      → MetEnd Asks a.end → a.taken ≡ bytes
  step_takes (Write out) a after bytes is all met = takes_as a _ bytes is (all (met_as a _ is met))
  step_takes (Report line) a after bytes is all met = takes_as a _ bytes is (all (met_as a _ is met))

  -- so steps take nothing
  steps_take : (steps : List Step) (After : Outcome → Type 0) (bytes : List ℕ) → TakesAll Asks bytes After → TakesAll Asks bytes (Performs steps After)
  steps_take [] After bytes all a does met = all a does met
  steps_take (step ∷ steps) After bytes all a does met = elim does [
    | inl fails ↦ absurd (not_failed step a fails met)
    | inr (after, rest, is) ↦ step_takes step a after bytes is (steps_take steps After bytes all after rest) met
  ]

  -- after the last unit
  last_takes : (rule : AfterLast) (bad : ℕ) (bytes : List ℕ) → (Asks → rule ≡ after_last.EndOfInput)
      → TakesAll Asks bytes (EndsAfterLast rule bad bytes)
  last_takes after_last.Done bad bytes asks a is met =
      absurd (let no : after_last.Done ≡ after_last.EndOfInput = asks (met_as a _ is met) in cc)
  last_takes after_last.NoControl bad bytes asks a is met = absurd (met_as a _ is met)
  last_takes after_last.EndOfInput bad [] asks a ends met = elim ends [
    | inl is ↦ takes_as a _ [] is refl
    | inr is ↦ absurd (met_as a _ is met)
  ]
  last_takes after_last.EndOfInput bad (byte ∷ left) asks a ends met = elim ends [
    | inl is ↦ absurd (met_as a _ is met)
    | inr is ↦ absurd (met_as a _ is met)
  ]

  -- nothing is left where it ended within a unit
  none_left : (part : Prefix) (k held : ℕ) (left : List ℕ) (end : LoopEnd) → EndsWithin part k held left end → MetEnd Asks end → left ≡ []
  none_left (Whole size) k held left end ends met = absurd ends
  none_left Cut k held left end (inl (is, none)) met = none
  none_left Cut k held left end (inr is) met = absurd (subst (MetEnd Asks) is met)
  none_left (Broken at) k held left end (inl is) met = absurd (subst (MetEnd Asks) is met)
  none_left (Broken at) k held left end (inr is) met = absurd (subst (MetEnd Asks) is met)

  -- after a unit that isn't the last
  kind_takes : (kind : UnitKind) (A : Outcome → Type 0) (bytes : List ℕ) → (Asks → kind ≢ Last) → TakesAll Asks bytes A
      → TakesAll Asks bytes (ContinuesAfter kind A)
  kind_takes Good A bytes never all a goes met = all a goes met
  kind_takes Bad A bytes never all a goes met = all a goes met
  kind_takes Last A bytes never all a is met = absurd (never (met_as a _ is met) refl)

  module _ (units : Units) (asks : Asks → units.after_last ≡ after_last.EndOfInput) (never : Asks → IsNever units Last) where
    -- from a unit on
    goes_take : (n : ℕ) (before : List (List ℕ)) (bad : ℕ) (bytes : List ℕ) → TakesAll Asks bytes (Continues units n before bad bytes)
    unfolding Continues
    goes_take zero before bad bytes a (steps, closes, does) met =
        steps_take steps (EndsAfterLast units.after_last bad bytes) bytes (last_takes units.after_last bad bytes asks) a does met
    goes_take (suc n) before bad bytes a (inl w) met =
        let none = none_left _ _ _ w.left a.end w.ends met in
        takes_as a _ bytes w.takes (append-nil w.own ∙ sym (w.prefix ∙ ap (λ l. w.own ++ l) none ∙ append-nil w.own))
    goes_take (suc n) before bad bytes a (inr t) met =
        let Next : Outcome → Type 0 = Continues units n (before ++ t.own ∷ []) (bad + bad_of t.kind) t.left in
        let rest : t.after.taken ≡ t.left =
        steps_take t.steps (ContinuesAfter t.kind Next) t.left
        (kind_takes t.kind Next t.left (λ one is. never one _ before t.own t.steps (subst (units.does _ before t.own t.steps) is t.unit.does))
        (goes_take n (before ++ t.own ∷ []) (bad + bad_of t.kind) t.left)) t.after t.does (met_as a _ t.takes met) in
        takes_as a _ bytes t.takes (ap (λ l. t.own ++ l) rest ∙ sym t.prefix)

    -- a whole loop
    loop_takes : (bytes : List ℕ) → TakesAll Asks bytes (IsOutcome units bytes)
    loop_takes bytes = steps_take units.opens (Continues units units.count [] 0 bytes) bytes (goes_take units.count [] 0 bytes)

-- these commands ask for the end of the input
abbrev AsksEnd : Command → Type 0
AsksEnd c = (c ≢ command.Info) × (c ≢ command.Exercise)

-- no block of a survey is the last
not_last : (cause : Option Cause) → Last ≡ kind_by cause → ⊥
not_last None is = cc
not_last (Some cause) is = cc

-- their units ask for it after the last of them
asks_end : (c : Command) (settings : Settings) (subject : (meaning c).Subject) → AsksEnd c
    → ((meaning c).units settings subject).after_last ≡ after_last.EndOfInput
asks_end command.Frames settings subject asks = refl
asks_end command.Master settings subject asks = refl
asks_end command.Recover settings subject asks = refl
asks_end command.Info settings subject asks = absurd (asks.0 refl)
asks_end command.Survey settings subject asks = refl
asks_end command.Exercise settings subject asks = absurd (asks.1 refl)
asks_end command.CdMake settings subject asks = refl
asks_end command.CdRead settings subject asks = refl
asks_end command.Merge settings subject asks = refl
asks_end command.Deep settings subject asks = refl
asks_end command.Assemble settings subject asks = refl
asks_end command.Convert settings subject asks = refl

-- and no unit ends the loop before
never_ends : (c : Command) (settings : Settings) (subject : (meaning c).Subject) → AsksEnd c → IsNever ((meaning c).units settings subject) Last
never_ends command.Frames settings subject asks = λ k before own steps does. let no : Last ≡ Good = does.good in cc
never_ends command.Master settings subject asks = λ k before own steps does. let no : Last ≡ Good = does.good in cc
never_ends command.Recover settings layout asks =
    never_last layout settings.zones settings.form (IsRecovered layout settings.zones settings.form) (recovered-wide layout settings.zones settings.form)
never_ends command.Info settings subject asks = absurd (asks.0 refl)
never_ends command.Survey settings subject asks = λ k before own steps does. not_last _ does.answers
never_ends command.Exercise settings subject asks = absurd (asks.1 refl)
never_ends command.CdMake settings subject asks = λ k before own steps does. let no : Last ≡ Good = does.good in cc
never_ends command.CdRead settings subject asks = λ k before own steps does. elim does [
  | inl given ↦ let no : Last ≡ Good = given.good in cc
  | inr refused ↦ let no : Last ≡ Bad = refused.bad in cc
]
never_ends command.Merge settings subject asks = λ k before own steps does. let no : Last ≡ Good = does.1 in cc
never_ends command.Deep settings layout asks =
    never_last layout settings.zones settings.form (IsDeepened layout settings.zones settings.form) (deepened-wide layout settings.zones settings.form)
never_ends command.Assemble settings subject asks = λ k before own steps does. let no : Last ≡ Good = does.1 in cc
never_ends command.Convert settings subject asks = λ k before own steps does. let no : Last ≡ Good = does.good in cc

-- so a loop of a command that met the end took all bytes
goes_over_all : (settings : Settings) (bytes : List ℕ) → TakesAll (AsksEnd settings.command) bytes (GoesOver settings bytes)
goes_over_all settings bytes a (subject, is_subject, runs) met =
    loop_takes (AsksEnd settings.command) ((meaning settings.command).units settings subject) (asks_end settings.command settings subject)
    (never_ends settings.command settings subject) bytes a runs met

-- with a header before its units, or without one
opens_all : (form : Form) (settings : Settings) (bytes : List ℕ) → TakesAll (AsksEnd settings.command) bytes (Opens form GoesOver settings bytes)
opens_all Plain settings bytes a goes met = goes_over_all settings bytes a goes met
opens_all Marked settings bytes a goes met = goes_over_all settings bytes a goes met
opens_all Listed settings bytes a o met =
    let Asks = AsksEnd settings.command in
    let within : MetEnd Asks o.after.end = met_as Asks a _ o.takes met in
    let rest : o.after.taken ≡ o.left = elim o.comes [
      | inl (fewer, inl (none, is)) ↦ takes_as Asks o.after _ o.left is (sym none)
      | inl (fewer, inr is) ↦ absurd (met_as Asks o.after _ is within)
      | inr (full, inl (at, breaks, is)) ↦ absurd (met_as Asks o.after _ is within)
      | inr (full, inr (stated, header, valid, goes)) ↦
          goes_over_all stated o.left o.after goes
          (subst (λ c. MetEnd (AsksEnd c) o.after.end) (sym (stated-command settings stated o.own header)) within)
    ] in
    takes_as Asks a _ bytes o.takes (ap (λ l. o.own ++ l) rest ∙ sym o.prefix)

-- the ends are those that the contract names
named : (c : Command) (end : LoopEnd) → InputEnded c end → MetEnd (AsksEnd c) end
named c Done met = met
named c (Short unit bytes) met = tt
named c (ShortHeader bytes) met = tt
named c (Damaged blocks) met = tt
named c other met = absurd met

-- the reads of such a run returned all bytes of the input
pub all_came : (settings : Settings) (bytes : List ℕ) (loop : Outcome) → IsLoop settings bytes loop → InputEnded settings.command loop.end → bytes ≡ loop.taken
all_came settings bytes loop runs met = sym (opens_all settings.form settings bytes loop runs (named settings.command loop.end met))
