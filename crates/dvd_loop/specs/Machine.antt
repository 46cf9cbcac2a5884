-- A command goes over its input unit by unit: sectors, blocks. This page says what a run of it reads, writes and
-- reports, and how it ends, with the faults of its streams among the ends. All of it is ours, and independent of what a
-- unit is.
use Rattle.std.specs.Prelude.{◌≡◌, ◌≢◌, ◌⊎◌, ℕ, zero, suc, ◌+◌, List, [], ◌∷◌, ◌++◌, length, nat_le, if◌then◌else◌}
use Rattle.dvd_loop.specs.declared.ends.LoopEnd.{LoopEnd}
use Rattle.dvd_loop.specs.declared.ends.LoopEnd.TheVariants.{Done, ReadFault, WriteFault, ReportFault, Short, Long, Damaged, NoControl, BadMarks}
use Rattle.dvd_loop.specs.declared.ends.UnitKind.{UnitKind}
use Rattle.dvd_loop.specs.declared.ends.UnitKind.TheVariants.{Good, Bad, Last}
use Rattle.dvd_loop.specs.declared.ends.AfterLast.{AfterLast}
use Rattle.dvd_loop.specs.declared.ends.AfterLast.TheVariants as after_last

-- How bytes begin, from the first byte of a unit on: with the whole unit, of this many bytes; with a part of it, which
-- is all that there is; or with one that breaks a rule at this offset.
pub data Prefix : Type 0 where
  Whole : ℕ → Prefix
  Cut : Prefix
  Broken : ℕ → Prefix

-- one step: bytes are written to the output, or a line is written to the report
pub data Step : Type 0 where
  Write : List ℕ → Step
  Report : List ℕ → Step

-- How many units there are, and how the bytes of unit k begin. What is done before anything is read. What may be done
-- for unit k, by the units before it and its own bytes, and which kind of unit it then is. What may be done after the
-- last, by all of them, and how the loop ends there. What is done is a list of steps, in order.
-- What may be done is a relation and no function, so that a command may name a thing that no formula computes, such as
-- the one block of sixteen frames. That there is only one is a law.
pub record Units : Type 1 where
  pub count : ℕ
  pub begins : ℕ → List ℕ → Prefix
  pub opens : List Step
  pub does : ℕ → List (List ℕ) → List ℕ → List Step → UnitKind → Type 0
  pub closes : List (List ℕ) → List Step → Type 0
  pub after_last : AfterLast

-- What was read of the input, written to the output and to the report, and how it ended.
pub record Outcome : Type 0 where
  pub taken : List ℕ
  pub out : List ℕ
  pub lines : List ℕ
  pub end : LoopEnd

-- it ends, and nothing more is read or done
abbrev pub ended : LoopEnd → Outcome
ended end = record { taken = []; out = []; lines = []; end = end }

-- these bytes were read, and then came the rest
abbrev pub taking : List ℕ → Outcome → Outcome
taking own after = record after { taken = own ++ after.taken }

-- a step was done, and then came the rest
abbrev pub stepping : Step → Outcome → Outcome
stepping (Write bytes) after = record after { out = bytes ++ after.out }
stepping (Report line) after = record after { lines = line ++ after.lines }

-- the stream failed within the step: a prefix of it was done, and something was left
abbrev pub Fails : Step → Outcome → Type 0
Fails (Write bytes) outcome = (prefix left : List ℕ) × (bytes ≡ prefix ++ left) × (left ≢ []) × (outcome ≡ stepping (Write prefix) (ended WriteFault))
Fails (Report line) outcome = (prefix left : List ℕ) × (line ≡ prefix ++ left) × (left ≢ []) × (outcome ≡ stepping (Report prefix) (ended ReportFault))

-- The steps are done one after the other, and After holds of the rest; or one of them fails, and nothing follows.
abbrev pub Performs : List Step → (Outcome → Type 0) → Outcome → Type 0
Performs [] After outcome = After outcome
Performs (step ∷ steps) After outcome = Fails step outcome ⊎ ((after : Outcome) × Performs steps After after × (outcome ≡ stepping step after))

-- How it ends within unit k, of which this many bytes were read and these are left: the input has ended, or what was
-- read breaks a rule; or a read failed.
abbrev pub EndsWithin : Prefix → ℕ → ℕ → List ℕ → LoopEnd → Type 0
EndsWithin (Whole size) k held left end = ⊥
EndsWithin Cut k held left end = ((end ≡ Short k held) × (left ≡ [])) ⊎ (end ≡ ReadFault)
EndsWithin (Broken at) k held left end = (end ≡ BadMarks k at) ⊎ (end ≡ ReadFault)

-- It ends within unit k: a part of the unit is read, and nothing is done.
pub record IsEndedWithin (units : Units) (k : ℕ) (bytes : List ℕ) (outcome : Outcome) : Type 0 where
  pub own : List ℕ
  pub left : List ℕ
  pub prefix : bytes ≡ own ++ left
  pub ends : EndsWithin (units.begins k own) k (length own) left outcome.end
  pub takes : outcome ≡ taking own (ended outcome.end)

-- These may be the bytes of the unit after those before, and these steps may be done for it.
pub record IsUnit (units : Units) (before : List (List ℕ)) (own : List ℕ) (steps : List Step) (kind : UnitKind) : Type 0 where
  pub whole : units.begins (length before) own ≡ Whole (length own)
  pub does : units.does (length before) before own steps kind

-- The unit after those is read and its steps are done. After holds of the rest, by its bytes, the bytes left and its
-- kind.
pub record IsTaken (units : Units) (before : List (List ℕ)) (After : List ℕ → List ℕ → UnitKind → Outcome → Type 0) (bytes : List ℕ) (outcome : Outcome) : Type 0 where
  pub own : List ℕ
  pub left : List ℕ
  pub steps : List Step
  pub kind : UnitKind
  pub prefix : bytes ≡ own ++ left
  pub unit : IsUnit units before own steps kind
  pub after : Outcome
  pub does : Performs steps (After own left kind) after
  pub takes : outcome ≡ taking own after

-- how many bad units it is
abbrev pub bad_of : UnitKind → ℕ
bad_of Good = 0
bad_of Bad = 1
bad_of Last = 0

-- the last unit ends the run, and any other continues it
abbrev pub ContinuesAfter : UnitKind → (Outcome → Type 0) → Outcome → Type 0
ContinuesAfter Last Continues outcome = outcome ≡ ended Done
ContinuesAfter Good Continues outcome = Continues outcome
ContinuesAfter Bad Continues outcome = Continues outcome

-- the end of an input that ended after the last unit, by the number of bad units
abbrev pub end_by : ℕ → LoopEnd
end_by zero = Done
end_by (suc bad) = Damaged (suc bad)

-- One more byte is requested after the last unit: there is none, or it is one too many, or the read fails. Or nothing
-- is requested.
abbrev pub EndsAfterLast : AfterLast → ℕ → List ℕ → Outcome → Type 0
EndsAfterLast after_last.Done bad left outcome = outcome ≡ ended Done
EndsAfterLast after_last.NoControl bad left outcome = outcome ≡ ended NoControl
EndsAfterLast after_last.EndOfInput bad [] outcome = (outcome ≡ ended (end_by bad)) ⊎ (outcome ≡ ended ReadFault)
EndsAfterLast after_last.EndOfInput bad (byte ∷ left) outcome = (outcome ≡ taking (byte ∷ []) (ended Long)) ⊎ (outcome ≡ ended ReadFault)

-- what follows those units, by how many of them are bad and how many units are left
unfoldable pub Continues : Units → ℕ → List (List ℕ) → ℕ → List ℕ → Outcome → Type 0
Continues units zero before bad left outcome = (steps : List Step) × units.closes before steps × Performs steps (EndsAfterLast units.after_last bad left) outcome
Continues units (suc n) before bad bytes outcome =
    IsEndedWithin units (length before) bytes outcome
    ⊎ IsTaken units before (λ own left kind. ContinuesAfter kind (Continues units n (before ++ own ∷ []) (bad + bad_of kind) left)) bytes outcome

-- A run of these units over these bytes.
abbrev pub IsOutcome : Units → List ℕ → Outcome → Type 0
IsOutcome units bytes outcome = Performs units.opens (Continues units units.count [] 0 bytes) outcome

-- After the loop comes the closing line of its end. There is none after a fault of the report, and such a fault in it
-- ends the run.
abbrev pub Closes : (LoopEnd → List ℕ) → LoopEnd → Outcome → Type 0
Closes closing ReportFault outcome = outcome ≡ ended ReportFault
Closes closing end outcome = Performs (Report (closing end) ∷ []) (λ after. after ≡ ended end) outcome

-- A possible loop that ended in this way, and its closing line.
pub record IsClosed (closing : LoopEnd → List ℕ) (May : Outcome → Type 0) (within : LoopEnd) (outcome : Outcome) : Type 0 where
  pub loop : Outcome
  pub runs : May loop
  pub ends : loop.end ≡ within
  pub line : Outcome
  pub closes : Closes closing within line
  pub all : outcome ≡ record { taken = loop.taken ++ line.taken; out = loop.out ++ line.out; lines = loop.lines ++ line.lines; end = line.end }

-- bytes that begin with a unit of that size, whatever they are
abbrev pub sized : ℕ → List ℕ → Prefix
sized size bytes = if nat_le size (length bytes) then Whole size else Cut

-- Units of these sizes. What may be done for each depends on its number and its bytes. Nothing opens or closes them,
-- and the input has to end after the last.
abbrev pub plain_units : ℕ → (ℕ → ℕ) → (ℕ → List ℕ → List Step → UnitKind → Type 0) → Units
plain_units count size does = record {
  count = count;
  begins = λ k. sized (size k);
  opens = [];
  does = λ k before. does k;
  closes = λ before steps. steps ≡ [];
  after_last = after_last.EndOfInput;
}
