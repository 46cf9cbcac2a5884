-- What the calls of a command do: for its opening, for one unit and for its closing.
use Rattle.std.specs.Prelude.{◌≡◌, ◌<◌, ◌⊎◌, ℕ, List, [], ◌∷◌, ◌++◌, length, Result, Ok, Err}
use Rattle.dvd_ports.specs.Bytes.{Consumes, IsAtEnd}
use Rattle.dvd_ports.specs.Seen.{Seen}
use Rattle.dvd_loop.specs.Machine.{Performs, IsUnit, IsTaken, IsEndedWithin, Outcome, Step, Units}
use Rattle.dvd_loop.specs.Machine.Step.{Write, Report}
use Rattle.dvd_loop.specs.Streams.{HaveReached, HasEnded, HaveCauses, HaveGoneOn, HaveMoved, Streams, streams}
use Rattle.dvd_loop.specs.declared.ends.AfterLast.TheVariants.{EndOfInput}
use Rattle.dvd_loop.specs.declared.ends.LoopEnd.{LoopEnd}
use Rattle.dvd_loop.specs.declared.ends.LoopEnd.TheVariants.{ReadFault, Short}
use Rattle.dvd_loop.specs.declared.ends.UnitKind.{UnitKind}

-- the bytes that these steps write
abbrev pub written : List Step → List ℕ
written [] = []
written (Write bytes ∷ steps) = bytes ++ written steps
written (Report line ∷ steps) = written steps

-- the lines that these steps report
abbrev pub reported : List Step → List ℕ
reported [] = []
reported (Write bytes ∷ steps) = reported steps
reported (Report line ∷ steps) = line ++ reported steps

-- nothing follows
abbrev pub Nothing : Outcome → Type 0
Nothing after = ⊥

-- Steps that are done without the source: all of them, or the loop ends within them.
abbrev pub AreSteps : {A : Type 0} → List Step → Streams → Streams → Result A LoopEnd → Type 0
AreSteps steps old new (Ok value) = HaveMoved old new [] (written steps) (reported steps)
AreSteps steps old new (Err end) = HaveReached (λ bytes. Performs steps Nothing) old new end

-- the counts of the streams by a call's answer
abbrev pub HaveCausesFor : {A : Type 0} → Result A LoopEnd → Streams → Streams → Type 0
HaveCausesFor (Ok value) old new = HaveGoneOn old new
HaveCausesFor (Err end) old new = HaveCauses end end old new

-- likewise for a call that only reads, with any output and any report
abbrev pub HasReadCause : {A : Type 0} → Result A LoopEnd → Seen → Seen → Type 0
HasReadCause answer old new = (output report : Seen) → HaveCausesFor answer (streams old output report) (streams new output report)

-- Steps that may be done for a unit of this kind: these were done, the answer is the kind, and a fault is the last call
-- of its stream.
pub record AreDone (May : List Step → UnitKind → Type 0) (old new : Streams) (answer : Result UnitKind LoopEnd) : Type 0 where
  pub steps : List Step
  pub kind : UnitKind
  pub may : May steps kind
  pub done : AreSteps steps old new answer
  pub is : (value : UnitKind) → answer ≡ Ok value → value ≡ kind
  pub causes : HaveCausesFor answer old new

-- A source gave a part of unit k, which has `size` bytes, and the loop ends there: the input has ended, or a read
-- failed.
pub record EndsShort (k size : ℕ) (old new : Seen) (end : LoopEnd) : Type 0 where
  pub own : List ℕ
  pub reads : Consumes old.bytes new.bytes own
  pub fewer : length own < size
  pub ends : ((end ≡ Short k (length own)) × IsAtEnd new.bytes) ⊎ (end ≡ ReadFault)

-- The unit was read and its steps done without a fault, it is of this kind, and the command is ready for the next.
pub record IsUnitDone (units : Units) (before : List (List ℕ)) (ready : List (List ℕ) → Type 0) (old new : Streams) (kind : UnitKind) : Type 0 where
  pub own : List ℕ
  pub steps : List Step
  pub unit : IsUnit units before own steps kind
  pub moved : HaveMoved old new own (written steps) (reported steps)
  pub causes : HaveGoneOn old new
  pub next : ready (before ++ own ∷ [])

-- the loop ends within the unit after those, or within its steps
abbrev pub EndsAt : Units → List (List ℕ) → List ℕ → Outcome → Type 0
EndsAt units before bytes outcome = IsEndedWithin units (length before) bytes outcome ⊎ IsTaken units before (λ own left kind. Nothing) bytes outcome

-- The command is ready for unit k, for some units before it.
abbrev pub IsReadyFor : ℕ → (List (List ℕ) → Type 0) → Type 0
IsReadyFor k ready = (before : List (List ℕ)) × (length before ≡ k) × ready before

-- Processing a unit answers its kind, or how it ends the loop.
abbrev pub IsProcessed : Units → List (List ℕ) → (List (List ℕ) → Type 0) → Streams → Streams → Result UnitKind LoopEnd → Type 0
IsProcessed units before ready old new (Ok kind) = IsUnitDone units before ready old new kind
IsProcessed units before ready old new (Err end) = HasEnded (EndsAt units before) old new end

-- Likewise for all units that may come before unit k, where the command is ready for it.
abbrev pub Processes : Units → ℕ → (List (List ℕ) → Type 0) → (List (List ℕ) → Type 0) → Streams → Streams → Result UnitKind LoopEnd → Type 0
Processes units k ready next old new answer = (before : List (List ℕ)) → length before ≡ k → ready before → IsProcessed units before next old new answer

-- Nothing opens or closes these units, and one more byte is requested after the last.
pub record ArePlain (units : Units) : Type 0 where
  pub opens : units.opens ≡ []
  pub closes : (before : List (List ℕ)) → units.closes before []
  pub after_last : units.after_last ≡ EndOfInput

-- Unit k of these is processed, whatever comes before it.
abbrev pub ProcessesPlain : Units → ℕ → Streams → Streams → Result UnitKind LoopEnd → Type 0
ProcessesPlain units k old new answer = (before : List (List ℕ)) → length before ≡ k → IsProcessed units before (λ after_last. Unit {0}) old new answer

-- The closing of all units, where the command is ready after them: some steps that may close them.
abbrev pub ClosesUnits : Units → (List (List ℕ) → Type 0) → Streams → Streams → Result (Unit {0}) LoopEnd → Type 0
ClosesUnits units ready old new answer =
    (before : List (List ℕ)) → length before ≡ units.count → ready before → (steps : List Step) × units.closes before steps × AreSteps steps old new answer
