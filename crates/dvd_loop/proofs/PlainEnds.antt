-- What a run can't end as, by what its units are.
use Rattle.std.proofs.Common.{◌≡◌, ◌≢◌, inl, inr, ◌⊎◌, ℕ, zero, suc, ◌+◌, ◌<◌, ◌≤◌, List, [], ◌∷◌, ◌++◌, length, length-append, refl, sym, subst, arith}
use Rattle.dvd_loop.specs.Laws.{IsNever}
use Rattle.dvd_loop.specs.Machine.{Performs, EndsAfterLast, EndsWithin, Continues, ContinuesAfter, IsOutcome, IsEndedWithin, Outcome, Step, Units, bad_of, end_by}
use Rattle.dvd_loop.specs.Machine.Prefix.{Whole, Cut, Broken}
use Rattle.dvd_loop.specs.Machine.Step.{Write, Report}
use Rattle.dvd_loop.specs.declared.ends.AfterLast.TheVariants as after_last
use Rattle.dvd_loop.specs.declared.ends.LoopEnd.{LoopEnd}
use Rattle.dvd_loop.specs.declared.ends.LoopEnd.TheVariants.{BadHeader, BadMarks, Damaged, Done, Long, NoControl, ReadFault, ReportFault, Short, ShortHeader, WriteFault}
use Rattle.dvd_loop.specs.declared.ends.UnitKind.{UnitKind}
use Rattle.dvd_loop.specs.declared.ends.UnitKind.TheVariants.{Good, Bad, Last}
use Rattle.dvd_loop.proofs.Totality.{one_fewer}

-- Some unit may be the last.
abbrev HasLast : Units → Type 0
HasLast units = (k : ℕ) × (before : List (List ℕ)) × (own : List ℕ) × (steps : List Step) × units.does k before own steps Last

-- Why a run of these units ends so, where Many says how many of the first k units may be bad. None ends in a header.
abbrev HasReason : Units → (ℕ → ℕ → Type 0) → LoopEnd → Type 0
HasReason units Many Done = HasLast units ⊎ ((units.after_last ≡ after_last.Done) ⊎ ((units.after_last ≡ after_last.EndOfInput) × Many units.count 0))
HasReason units Many ReadFault = Unit {0}
HasReason units Many WriteFault = Unit {0}
HasReason units Many ReportFault = Unit {0}
HasReason units Many (Short k held) = (own : List ℕ) × (k < units.count) × (units.begins k own ≡ Cut) × (held ≡ length own)
HasReason units Many (BadMarks k at) = (own : List ℕ) × (k < units.count) × (units.begins k own ≡ Broken at)
HasReason units Many NoControl = units.after_last ≡ after_last.NoControl
HasReason units Many Long = units.after_last ≡ after_last.EndOfInput
HasReason units Many (Damaged bad) = (units.after_last ≡ after_last.EndOfInput) × Many units.count bad × (bad ≢ 0)
HasReason units Many (ShortHeader held) = ⊥
HasReason units Many (BadHeader at) = ⊥

-- Many is such a count: it holds of no units, and of one unit more with the bad ones that it adds.
record IsCount (units : Units) (Many : ℕ → ℕ → Type 0) : Type 0 where
  none : Many 0 0
  more : (k bad : ℕ) (before : List (List ℕ)) (own : List ℕ) (steps : List Step) (kind : UnitKind) → Many k bad → units.does k before own steps kind
      → Many (k + 1) (bad + bad_of kind)

-- every outcome of A ends in a way that may be
abbrev AllEndSo : (LoopEnd → Type 0) → (Outcome → Type 0) → Type 0
AllEndSo May A = (a : Outcome) → A a → May a.end

-- an outcome equal to one that ends as it may ends so too
end_as : (May : LoopEnd → Type 0) (a b : Outcome) → a ≡ b → May b.end → May a.end
end_as May a b is may = subst (λ (o : Outcome). May o.end) (sym is) may

-- after steps a run ends as it may, and so where a step fails
steps_end : (May : LoopEnd → Type 0) → May WriteFault → May ReportFault → (steps : List Step) (A : Outcome → Type 0) → AllEndSo May A
    → AllEndSo May (Performs steps A)
steps_end May write report [] A so a does = so a does
steps_end May write report (Write bytes ∷ steps) A so a does = elim does [
  | inl (prefix, left, whole, some, fails) ↦ end_as May a _ fails write
  | inr (after, does, is) ↦ end_as May a _ is (steps_end May write report steps A so after does)
]
steps_end May write report (Report line ∷ steps) A so a does = elim does [
  | inl (prefix, left, whole, some, fails) ↦ end_as May a _ fails report
  | inr (after, does, is) ↦ end_as May a _ is (steps_end May write report steps A so after does)
]

-- the end of an input after the last unit, so many being bad
counted_end : (units : Units) (Many : ℕ → ℕ → Type 0) (bad : ℕ) → units.after_last ≡ after_last.EndOfInput → Many units.count bad → HasReason units Many (end_by bad)
counted_end units Many zero asks are = inr (inr (asks, are))
counted_end units Many (suc bad) asks are = (asks, are, λ no. cc)

module _ (units : Units) (Many : ℕ → ℕ → Type 0) (are : IsCount units Many) where
  -- one byte more is asked for
  asked_end : units.after_last ≡ after_last.EndOfInput → (bad : ℕ) → Many units.count bad → (left : List ℕ)
      → AllEndSo (HasReason units Many) (EndsAfterLast after_last.EndOfInput bad left)
  asked_end asks bad many [] a ends = elim ends [
    | inl is ↦ end_as (HasReason units Many) a _ is (counted_end units Many bad asks many)
    | inr is ↦ end_as (HasReason units Many) a _ is tt
  ]
  asked_end asks bad many (byte ∷ left) a ends = elim ends [
    | inl is ↦ end_as (HasReason units Many) a _ is asks
    | inr is ↦ end_as (HasReason units Many) a _ is tt
  ]

  -- after the last unit
  behind_end : (bad : ℕ) → Many units.count bad → (left : List ℕ) → AllEndSo (HasReason units Many) (EndsAfterLast units.after_last bad left)
  behind_end bad many left a ends =
      elim units.after_last as (λ rule. units.after_last ≡ rule → EndsAfterLast rule bad left a → HasReason units Many a.end) [
        | after_last.Done ↦ λ is ends. end_as (HasReason units Many) a _ ends (inr (inl is))
        | after_last.NoControl ↦ λ is ends. end_as (HasReason units Many) a _ ends is
        | after_last.EndOfInput ↦ λ is ends. asked_end is bad many left a ends
      ] refl ends

  -- within a unit
  within_end : (k : ℕ) (bytes : List ℕ) → k < units.count → AllEndSo (HasReason units Many) (IsEndedWithin units k bytes)
  within_end k bytes lt a w =
      elim (units.begins k w.own) as (λ part. units.begins k w.own ≡ part → EndsWithin part k (length w.own) w.left a.end → HasReason units Many a.end) [
        | Whole size ↦ λ is ends. absurd ends
        | Cut ↦ λ is ends. elim ends [
          | inl (short, all) ↦ subst (HasReason units Many) (sym short) (w.own, lt, is, refl)
          | inr fault ↦ subst (HasReason units Many) (sym fault) tt
        ]
        | Broken at ↦ λ is ends. elim ends [
          | inl marks ↦ subst (HasReason units Many) (sym marks) (w.own, lt, is)
          | inr fault ↦ subst (HasReason units Many) (sym fault) tt
        ]
      ] refl w.ends

  -- after a unit
  kinds_end : (k : ℕ) (before : List (List ℕ)) (own : List ℕ) (steps : List Step) (kind : UnitKind) → units.does k before own steps kind
      → (A : Outcome → Type 0) → AllEndSo (HasReason units Many) A → AllEndSo (HasReason units Many) (ContinuesAfter kind A)
  kinds_end k before own steps Good does A so a goes = so a goes
  kinds_end k before own steps Bad does A so a goes = so a goes
  kinds_end k before own steps Last does A so a goes = end_as (HasReason units Many) a _ goes (inl (k, before, own, steps, does))

  -- from a unit on
  goes_end : (n : ℕ) (before : List (List ℕ)) (bad : ℕ) (bytes : List ℕ) → length before + n ≡ units.count → Many (length before) bad
      → AllEndSo (HasReason units Many) (Continues units n before bad bytes)
  unfolding Continues
  goes_end zero before bad bytes all many a (steps, closes, does) =
      let here : length before ≡ units.count = omega arith in
      steps_end (HasReason units Many) tt tt steps (EndsAfterLast units.after_last bad bytes) (behind_end bad (subst (λ n. Many n bad) here many) bytes) a does
  goes_end (suc n) before bad bytes all many a goes = elim goes [
    | inl w ↦ within_end (length before) bytes (omega arith) a w
    | inr t ↦
        let Next = Continues units n (before ++ t.own ∷ []) (bad + bad_of t.kind) t.left in
        let next : length before + 1 ≡ length (before ++ t.own ∷ []) = omega (arith, length-append before (t.own ∷ [])) in
        let so = goes_end n (before ++ t.own ∷ []) (bad + bad_of t.kind) t.left (one_fewer before t.own n units.count all)
        (subst (λ k. Many k (bad + bad_of t.kind)) next (are.more (length before) bad before t.own t.steps t.kind many t.unit.does)) in
        end_as (HasReason units Many) a _ t.takes (steps_end (HasReason units Many) tt tt t.steps (ContinuesAfter t.kind Next) (kinds_end (length before) before t.own t.steps t.kind t.unit.does Next so) t.after t.does)
  ]

  -- the whole run
  run_ends : (bytes : List ℕ) → AllEndSo (HasReason units Many) (IsOutcome units bytes)
  run_ends bytes = steps_end (HasReason units Many) tt tt units.opens (Continues units units.count [] 0 bytes) (goes_end units.count [] 0 bytes (omega arith) are.none)

-- bad units are no more than all
at_most : (k bad : ℕ) (kind : UnitKind) → bad ≤ k → bad + bad_of kind ≤ k + 1
at_most k bad Good le = omega arith
at_most k bad Bad le = omega arith
at_most k bad Last le = omega arith

-- a unit that isn't bad adds none
none_more : (bad : ℕ) (kind : UnitKind) → bad ≡ 0 → kind ≢ Bad → bad + bad_of kind ≡ 0
none_more bad Good none not = omega arith
none_more bad Last none not = omega arith
none_more bad Bad none not = absurd (not refl)

module _ (units : Units) (bytes : List ℕ) (outcome : Outcome) (runs : IsOutcome units bytes outcome) where
  -- the reason of an end, whatever number of units may be bad
  reason : (end : LoopEnd) → outcome.end ≡ end → HasReason units (λ k bad. Unit {0}) end
  reason end is =
      let counts : IsCount units (λ k bad. Unit {0}) = record { none = tt; more = λ k bad before own steps kind many does. tt } in
      subst (HasReason units (λ k bad. Unit {0})) is (run_ends units (λ k bad. Unit {0}) counts bytes outcome runs)

  -- the unit that the input ends in is one of them
  pub short_below : (k held : ℕ) → outcome.end ≡ Short k held → k < units.count
  short_below k held is = (reason (Short k held) is).1

  -- where units never are a part alone, no input ends within one
  pub never_short : ((k : ℕ) (own : List ℕ) → units.begins k own ≢ Cut) → (k held : ℕ) → outcome.end ≢ Short k held
  never_short never k held is = let why = reason (Short k held) is in never k why.0 why.2

  -- no run over units ends in a header
  pub never_short_header : (held : ℕ) → outcome.end ≢ ShortHeader held
  never_short_header held is = reason (ShortHeader held) is

  -- nor does it end in a header that breaks a rule
  pub never_bad_header : (at : ℕ) → outcome.end ≢ BadHeader at
  never_bad_header at is = reason (BadHeader at) is

  -- where no bytes break a rule, no run ends so
  pub never_bad_marks : ((k at : ℕ) (own : List ℕ) → units.begins k own ≢ Broken at) → (k at : ℕ) → outcome.end ≢ BadMarks k at
  never_bad_marks never k at is = let why = reason (BadMarks k at) is in never k at why.0 why.2

  -- the unit that breaks a rule is one of them
  pub marks_below : (k at : ℕ) → outcome.end ≡ BadMarks k at → k < units.count
  marks_below k at is = (reason (BadMarks k at) is).1

  -- a run ends as NoControl only where that comes after its units
  pub never_no_control : units.after_last ≢ after_last.NoControl → outcome.end ≢ NoControl
  never_no_control not is = not (reason NoControl is)

  -- where nothing is asked for after the units, nothing is found there
  pub never_long : units.after_last ≢ after_last.EndOfInput → outcome.end ≢ Long
  never_long not is = not (reason Long is)

  -- no more units are bad than there are
  pub damaged_at_most : (bad : ℕ) → outcome.end ≡ Damaged bad → bad ≤ units.count
  damaged_at_most bad is =
      let counts : IsCount units (λ k many. many ≤ k) =
      record { none = omega arith; more = λ k many before own steps kind are does. at_most k many kind are } in
      (subst (HasReason units (λ k many. many ≤ k)) is (run_ends units (λ k many. many ≤ k) counts bytes outcome runs)).1

  -- where no unit is bad, none is counted as damaged
  pub never_damaged : IsNever units Bad → (bad : ℕ) → outcome.end ≢ Damaged bad
  never_damaged never bad is =
      let counts : IsCount units (λ k many. many ≡ 0) =
      record { none = refl; more = λ k many before own steps kind are does. none_more many kind are (λ no. never k before own steps (subst (units.does k before own steps) no does)) } in
      let why = subst (HasReason units (λ k many. many ≡ 0)) is (run_ends units (λ k many. many ≡ 0) counts bytes outcome runs) in
      why.2 why.1
