-- Ours: what is known while the fields of a listed unit come or are written one after the other.
use Rattle.std.specs.Prelude.{◌≡◌, ℕ, ◌+◌, ◌-◌, ◌*◌, ◌<◌, ◌≤◌, ◌==◌, not, Bool, false, ◌&&◌, ◌||◌, if◌then◌else◌, zero, suc, List, [], ◌++◌, length, take, slice_index, Result, Ok, Err}
use Rattle.dvd_ports.specs.Bytes.{Appends, Bytes, Consumes, IsAtEnd}
use Rattle.dvd_ports.specs.Causes.{HasGoneOn}
use Rattle.dvd_ports.specs.Seen.{Seen}
use Rattle.dvd_capture.specs.Fetching.{FetchCounts}
use Rattle.dvd_ports.specs.Whole.{AppendsPrefix, ConsumesFewer}
use Rattle.dvd_capture.specs.Listed.{IsBrokenAt, IsUnbroken, end_of, field_at, listed_size, marked_by, run_count}
use Rattle.dvd_capture.specs.declared.capture.FetchAnswer.{FetchAnswer}
use Rattle.dvd_capture.specs.declared.runs.Taken.{Taken}
use Rattle.dvd_capture.specs.declared.capture.FetchAnswer.TheVariants.{Full, End, Short, ReadFault, BadMarks}

-- These bytes are those of a unit up to its first n runs, and break no rule. The last of these runs ends there, and
-- these marks are theirs.
pub record HasRuns (bytes : List ℕ) (count n end : ℕ) (mark : ℕ → Bool) : Type 0 where
  pub size : length bytes ≡ 37_858 + 4 * n
  pub number : run_count bytes ≡ count
  pub unbroken : IsUnbroken bytes
  pub none : n ≡ 0 → end ≡ 0
  pub last : 0 < n → end ≡ end_of bytes (n - 1)
  pub marks : (place : ℕ) → place < 37_856 → mark place ≡ marked_by bytes n place

-- These bytes and fields are those of a unit up to its first runs, and break no rule; these marks are those of its
-- whole runs.
pub record HasFields (head : List ℕ) (count : ℕ) (fields : List ℕ) (mark : ℕ → Bool) (taken : Taken) : Type 0 where
  pub runs : HasRuns (head ++ take (4 * taken.runs) fields) count taken.runs taken.end mark
  pub whole : 4 * taken.runs ≤ length fields
  pub few : length fields < 4 * taken.runs + 4
  pub start : 4 * taken.runs + 2 ≤ length fields → (field_at fields (4 * taken.runs) < 37_856) × (0 < taken.runs → taken.end < field_at fields (4 * taken.runs))

-- a broken rule is answered
abbrev pub IsBadMarks : FetchAnswer → Type 0
IsBadMarks (BadMarks at) = Unit {0}
IsBadMarks other = ⊥

-- one of these bytes' fields breaks a rule, the first at the place that the answer gives
abbrev pub BreaksIn : List ℕ → FetchAnswer → Type 0
BreaksIn bytes (BadMarks at) = IsBrokenAt bytes at
BreaksIn bytes other = ⊥

-- no rule is broken in these bytes, and their unit has more
pub record IsCut (bytes : List ℕ) : Type 0 where
  pub fewer : length bytes < listed_size bytes
  pub unbroken : IsUnbroken bytes

-- why a unit isn't fetched that begins with these bytes, those that were taken of it
abbrev pub IsStop : List ℕ → Bytes → FetchAnswer → Type 0
IsStop bytes left Full = ⊥
IsStop bytes left End = ⊥
IsStop bytes left (Short count) = (count ≡ length bytes) × IsAtEnd left × IsCut bytes
IsStop bytes left ReadFault = IsCut bytes
IsStop bytes left (BadMarks at) = IsBrokenAt bytes at

-- after those bytes more were taken, and the unit isn't fetched
pub record IsStopped (before : List ℕ) (old new : Bytes) (answer : FetchAnswer) : Type 0 where
  pub own : List ℕ
  pub taken : Consumes old new own
  pub stops : IsStop (before ++ own) new answer

-- after those bytes more were taken, and now there are so many runs
pub record TakesRuns (before : List ℕ) (count n end : ℕ) (mark : ℕ → Bool) (old new : Bytes) : Type 0 where
  pub own : List ℕ
  pub taken : Consumes old new own
  pub runs : HasRuns (before ++ own) count n end mark

-- after those bytes of rows more were taken or written, to the last run of their unit
pub record TakesAll (before : List ℕ) (mark : ℕ → Bool) (old new : Bytes) : Type 0 where
  pub count : ℕ
  pub end : ℕ
  pub takes : TakesRuns before count count end mark old new

-- what is answered after the bytes of rows
abbrev pub IsFetched : List ℕ → (ℕ → Bool) → Bytes → Bytes → FetchAnswer → Type 0
IsFetched before mark old new Full = TakesAll before mark old new
IsFetched before mark old new End = ⊥
IsFetched before mark old new (Short count) = IsStopped before old new (Short count)
IsFetched before mark old new ReadFault = IsStopped before old new ReadFault
IsFetched before mark old new (BadMarks at) = IsStopped before old new (BadMarks at)

-- these bytes, after those of the rows, are the fields of a unit to its last run
pub record AreFields (before : List ℕ) (mark : ℕ → Bool) (own : List ℕ) : Type 0 where
  pub bytes : (k : ℕ) → slice_index own k < 256
  pub count : ℕ
  pub end : ℕ
  pub runs : HasRuns (before ++ own) count count end mark

-- after those bytes of rows more were written, to the last run of their unit
pub record AppendsAll (before : List ℕ) (mark : ℕ → Bool) (old new : Bytes) : Type 0 where
  pub own : List ℕ
  pub are : AreFields before mark own
  pub grows : Appends old new own

-- after those bytes of rows a front was written of bytes that go to the last run of their unit
pub record AppendsSome (before : List ℕ) (mark : ℕ → Bool) (old new : Bytes) : Type 0 where
  pub own : List ℕ
  pub are : AreFields before mark own
  pub part : AppendsPrefix old new own

-- some fields came after these, no more than so many bytes in all
pub record TakesMore (most : ℕ) (fields now : List ℕ) (old new : Bytes) : Type 0 where
  pub own : List ℕ
  pub some : 0 < length own
  pub within : length fields + length own ≤ most
  pub puts : now ≡ fields ++ own
  pub taken : Consumes old new own

-- nothing came after so many bytes of a unit: the source ended, or a read failed
abbrev pub TakesNone : ℕ → Bytes → Bytes → FetchAnswer → Type 0
TakesNone held old new (Short count) = (count ≡ held) × Consumes old new [] × IsAtEnd new
TakesNone held old new ReadFault = Consumes old new []
TakesNone held old new other = ⊥

-- a field was taken after so many bytes of a unit, or the source failed or ended within it
pub record TakesField (old new : Bytes) (value : ℕ) : Type 0 where
  pub own : List ℕ
  pub size : length own ≡ 2
  pub taken : Consumes old new own
  pub is : field_at own 0 ≡ value

-- the source ended within a field: of its two bytes fewer came, after so many of the unit
pub record EndsInField (held : ℕ) (old new : Bytes) (count : ℕ) : Type 0 where
  pub own : List ℕ
  pub fewer : length own < 2
  pub taken : Consumes old new own
  pub is : count ≡ held + length own
  pub at_end : IsAtEnd new

-- why a field wasn't taken: the source ended within it, or a read failed
abbrev pub IsNoField : ℕ → Bytes → Bytes → FetchAnswer → Type 0
IsNoField held old new Full = ⊥
IsNoField held old new End = ⊥
IsNoField held old new (Short count) = EndsInField held old new count
IsNoField held old new ReadFault = ConsumesFewer old new 2
IsNoField held old new (BadMarks at) = ⊥

-- the counts of the source: no read stopped, or they are those of why a part wasn't taken
abbrev pub HasFetchCause : {A : Type 0} → Result A FetchAnswer → Seen → Seen → Type 0
HasFetchCause (Ok value) old new = HasGoneOn old new
HasFetchCause (Err answer) old new = FetchCounts answer old new

-- how many runs start below place n: at each marked place with none marked before it
unfoldable pub starts_below : (ℕ → Bool) → ℕ → ℕ
starts_below mark zero = 0
starts_below mark (suc n) = starts_below mark n + (if mark n && ((n == 0) || not (mark (n - 1))) then 1 else 0)

-- from a place on each place below another has this mark
abbrev pub AreMarked : (ℕ → Bool) → Bool → ℕ → ℕ → Type 0
AreMarked mark value from to = (place : ℕ) → from ≤ place → place < to → mark place ≡ value

-- the first place from one on, and before another, that has this mark, or that other place
pub record IsFound (mark : ℕ → Bool) (value : Bool) (from end at : ℕ) : Type 0 where
  pub least : from ≤ at
  pub within : at ≤ end
  pub passed : AreMarked mark (not value) from at
  pub found : at < end → mark at ≡ value

-- these bytes are those of the rows, and no place is marked yet
abbrev pub AreRows : List ℕ → (ℕ → Bool) → Type 0
AreRows before mark = (length before ≡ 37_856) × AreMarked mark false 0 37_856
