-- What holds of every run over units: its outcome is determined and exists, what its faults leave, and where it ends by
-- the sizes of its units.
use Rattle.std.specs.Prelude.{◌≡◌, ◌⊎◌, ◌↔◌, ℕ, ◌+◌, ◌*◌, ◌<◌, ◌≤◌, List, [], ◌++◌, length, take}
use Rattle.dvd_loop.specs.Machine.{IsOutcome, IsUnit, Outcome, Step, Units, sized}
use Rattle.dvd_loop.specs.Machine.Prefix.{Whole, Cut, Broken}
use Rattle.dvd_loop.specs.declared.ends.AfterLast.TheVariants.{EndOfInput, Done as StopsDone}
use Rattle.dvd_loop.specs.declared.ends.LoopEnd.{LoopEnd}
use Rattle.dvd_loop.specs.declared.ends.LoopEnd.TheVariants.{BadMarks, Damaged, Done, Long, NoControl, ReadFault, ReportFault, Short, WriteFault}
use Rattle.dvd_loop.specs.declared.ends.UnitKind.{UnitKind}
use Rattle.dvd_loop.specs.declared.ends.UnitKind.TheVariants.{Last}

-- no fault ended it
abbrev pub IsFaultless : LoopEnd → Type 0
IsFaultless ReadFault = ⊥
IsFaultless WriteFault = ⊥
IsFaultless ReportFault = ⊥
IsFaultless end = Unit {0}

-- no broken rule ended it
abbrev pub IsNotBadMarks : LoopEnd → Type 0
IsNotBadMarks (BadMarks unit at) = ⊥
IsNotBadMarks end = Unit {0}

-- A whole unit, or one that breaks a rule, stays so whatever follows. Each unit has one list of steps and one kind, and
-- the closing has one list of steps.
pub record AreDetermined (units : Units) : Type 0 where
  pub whole : (k : ℕ) (own more : List ℕ) → units.begins k own ≡ Whole (length own) → units.begins k (own ++ more) ≡ Whole (length own)
  pub broken : (k at : ℕ) (own more : List ℕ) → units.begins k own ≡ Broken at → units.begins k (own ++ more) ≡ Broken at
  pub does : (before : List (List ℕ)) (own : List ℕ) (steps others : List Step) (kind other : UnitKind)
      → IsUnit units before own steps kind → IsUnit units before own others other → (steps ≡ others) × (kind ≡ other)
  pub closes : (before : List (List ℕ)) (steps others : List Step) → units.closes before steps → units.closes before others → steps ≡ others

-- The same units and bytes have one outcome: the output, the report, the end, and what is read except of a broken unit.
abbrev pub OutcomesAgree : Units → Type 0
OutcomesAgree units =
    AreDetermined units → (bytes : List ℕ) (a b : Outcome) → IsOutcome units bytes a → IsOutcome units bytes b → IsFaultless a.end → IsFaultless b.end
    → (a.out ≡ b.out) × (a.lines ≡ b.lines) × (a.end ≡ b.end) × (IsNotBadMarks a.end → a.taken ≡ b.taken)

-- Whatever the bytes are, they begin in some way, and some steps may be done for each unit and after all.
pub record AreTotal (units : Units) : Type 0 where
  pub begins : (k : ℕ) (bytes : List ℕ) → k < units.count
      → ((own left : List ℕ) × (bytes ≡ own ++ left) × (units.begins k own ≡ Whole (length own))) ⊎ (units.begins k bytes ≡ Cut)
      ⊎ ((own left : List ℕ) × (at : ℕ) × (bytes ≡ own ++ left) × (units.begins k own ≡ Broken at))
  pub does : (before : List (List ℕ)) (own : List ℕ) → length before < units.count → units.begins (length before) own ≡ Whole (length own)
      → (steps : List Step) × (kind : UnitKind) × units.does (length before) before own steps kind
  pub closes : (before : List (List ℕ)) → length before ≡ units.count → (steps : List Step) × units.closes before steps

-- every input has an outcome without a fault
abbrev pub OutcomeExists : Units → Type 0
OutcomeExists units = AreTotal units → (bytes : List ℕ) → (outcome : Outcome) × IsOutcome units bytes outcome × IsFaultless outcome.end

-- After a fault of the source everything is as if the input had ended where the read failed.
abbrev pub ReadFaultEndsInput : Units → Type 0
ReadFaultEndsInput units =
    (bytes : List ℕ) (a : Outcome) → IsOutcome units bytes a → a.end ≡ ReadFault
    → (b : Outcome) × IsOutcome units a.taken b × IsFaultless b.end × (b.taken ≡ a.taken) × (b.out ≡ a.out) × (b.lines ≡ a.lines)

-- one list is a prefix of the other
abbrev pub IsPrefixOf : List ℕ → List ℕ → Type 0
IsPrefixOf prefix whole = (left : List ℕ) × (whole ≡ prefix ++ left)

-- After any fault the output and the report have a prefix of what they would have without it.
abbrev pub FaultsLeavePrefixes : Units → Type 0
FaultsLeavePrefixes units =
    AreTotal units → (bytes : List ℕ) (a : Outcome) → IsOutcome units bytes a
    → (b : Outcome) × IsOutcome units bytes b × IsFaultless b.end × IsPrefixOf a.out b.out × IsPrefixOf a.lines b.lines

-- the first k units alone, and nothing after them
abbrev pub first : ℕ → Units → Units
first k units = record units { count = k; closes = λ before steps. steps ≡ []; after_last = StopsDone }

-- the ends of a loop over a number of units that reports nothing, where no unit is bad or the last: a Short names one
-- of them
abbrev pub IsPlainEnd : ℕ → LoopEnd → Type 0
IsPlainEnd count Done = Unit {0}
IsPlainEnd count ReadFault = Unit {0}
IsPlainEnd count WriteFault = Unit {0}
IsPlainEnd count (Short unit bytes) = unit < count
IsPlainEnd count Long = Unit {0}
IsPlainEnd count end = ⊥

-- likewise where units may be bad, and lines are reported
abbrev pub IsDamageEnd : ℕ → LoopEnd → Type 0
IsDamageEnd count ReportFault = Unit {0}
IsDamageEnd count (Damaged blocks) = blocks ≤ count
IsDamageEnd count end = IsPlainEnd count end

-- those of a loop that looks for the first unit of a kind and reports nothing: the unit found is the last, and without
-- one the loop ends after all of them as NoControl, where nothing is requested that could be too much
abbrev pub IsSearchEnd : ℕ → LoopEnd → Type 0
IsSearchEnd count NoControl = Unit {0}
IsSearchEnd count Long = ⊥
IsSearchEnd count end = IsPlainEnd count end

-- no unit is of this kind
abbrev pub IsNever : Units → UnitKind → Type 0
IsNever units kind = (k : ℕ) (before : List (List ℕ)) (own : List ℕ) (steps : List Step) → units.does k before own steps kind → ⊥

-- They have one size, none of them is the last, and one more byte is requested after them.
pub record AreOfOneSize (units : Units) (size : ℕ) : Type 0 where
  pub begins : (k : ℕ) (bytes : List ℕ) → units.begins k bytes ≡ sized size bytes
  pub never_last : IsNever units Last
  pub asks : units.after_last ≡ EndOfInput

-- the input ended after the last unit
abbrev pub IsOver : LoopEnd → Type 0
IsOver Done = Unit {0}
IsOver (Damaged bad) = Unit {0}
IsOver end = ⊥

-- The end says how long the input is: it ended in a unit, or after the last one, or it goes on there. At most all units
-- and one more byte are read.
pub record GivesLength (count size : ℕ) (bytes : List ℕ) (outcome : Outcome) : Type 0 where
  pub short : (k held : ℕ) → (outcome.end ≡ Short k held) ↔ ((k < count) × (held < size) × (length bytes ≡ k * size + held))
  pub over : IsOver outcome.end ↔ (length bytes ≡ count * size)
  pub long : (outcome.end ≡ Long) ↔ (count * size < length bytes)
  pub taken : outcome.taken ≡ take (count * size + 1) bytes

-- Without a fault the end follows from the length of the input.
abbrev pub EndsBySize : Units → Type 0
EndsBySize units =
    (size : ℕ) → AreOfOneSize units size → (bytes : List ℕ) (a : Outcome) → IsOutcome units bytes a → IsFaultless a.end → GivesLength units.count size bytes a
