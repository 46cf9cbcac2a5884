-- What only the private functions of this crate promise. Of public contracts, only those of the buffers cite this page,
-- and no law does.
use Rattle.std.specs.Prelude.{◌≡◌, ◌⊎◌, ℕ, zero, suc, ◌+◌, ◌*◌, ◌<◌, ◌≤◌, Bool, false, List, [], ◌++◌, length, replicate, slice_index, slice_index_or, slice_set, Result, Ok, Err}
use Rattle.dvd_ports.specs.Bytes.{Appends, Consumes, IsAtEnd}
use Rattle.cap_interleave.specs.Blocks.{CaptureBytes, Task, block_written}
use Rattle.cap_interleave.specs.declared.ends.InterleaveEnd.{InterleaveEnd}
use Rattle.cap_interleave.specs.declared.ends.InterleaveEnd.TheVariants.{Done, ReadFault, Short, WriteFault}
use Rattle.dvd_ports.specs.Causes.{HasFailed, HasGoneOn, HasMetEnd}
use Rattle.dvd_ports.specs.Seen.{Seen}
use Rattle.dvd_ports.specs.Whole.{AppendsPrefix}

-- The size of a block, whether blocks are filled, how many bytes there were in the last block of each capture, and the
-- unit so far.
pub record BuffersState : Type 0 where
  pub size : ℕ
  pub fill : Bool
  pub held : List ℕ
  pub unit : List ℕ

-- Buffers for a task, before anything is read. A whole block is recorded for each capture, so that its first is read.
abbrev pub fresh : Task → BuffersState
fresh task = record { size = task.size; fill = task.fill; held = replicate task.count task.size; unit = [] }

-- the task that buffers are for
abbrev pub task_of : BuffersState → Task
task_of buffers = record { size = buffers.size; fill = buffers.fill; count = length buffers.held }

-- These bytes of a block came. A source that had only a part of the block before isn't read again.
pub record GivesBlock (size before : ℕ) (own : List ℕ) (old new : Seen) : Type 0 where
  pub ended : before < size → (own ≡ []) × (new ≡ old)
  pub reads : size ≤ before → Consumes old.bytes new.bytes own
  pub answers : size ≤ before → ((length own ≡ size) × HasGoneOn old new) ⊎ ((length own < size) × IsAtEnd new.bytes × HasMetEnd old new)

-- a read failed within the block, after these bytes of it
pub record BreaksBlock (size before : ℕ) (own : List ℕ) (old new : Seen) : Type 0 where
  pub asked : size ≤ before
  pub reads : Consumes old.bytes new.bytes own
  pub fewer : length own < size
  pub failed : HasFailed old new

abbrev pub BreaksSomeBlock : ℕ → ℕ → Seen → Seen → Type 0
BreaksSomeBlock size before old new = (own : List ℕ) × BreaksBlock size before own old new

-- A block of capture c was read, and added at the end of the unit.
pub record IsReadInto (c : ℕ) (old new : BuffersState) (before after : Seen) : Type 0 where
  pub own : List ℕ
  pub gives : GivesBlock old.size (slice_index old.held c) own before after
  pub becomes : new ≡ record old { held = slice_set old.held c (length own); unit = old.unit ++ block_written old.fill own }
  pub room : length new.unit ≤ length old.unit + 42_640

-- the blocks of the first captures, one after the other
unfoldable pub filled_blocks : Bool → CaptureBytes → ℕ → List ℕ
filled_blocks fill owns zero = []
filled_blocks fill owns (suc c) = filled_blocks fill owns c ++ block_written fill (owns c)

-- A block of each of the first n captures was read into the unit; the others are as they were.
pub record AreReadTo {S : Type 0} (seen : S → Seen) (n : ℕ) (old new : BuffersState) (olds news : List S) : Type 0 where
  pub owns : CaptureBytes
  pub gives : (c : ℕ) (d : S) → c < n → GivesBlock old.size (slice_index old.held c) (owns c) (seen (slice_index_or olds c d)) (seen (slice_index_or news c d))
  pub none : (c : ℕ) → n ≤ c → owns c ≡ []
  pub others : (c : ℕ) (d : S) → n ≤ c → slice_index_or news c d ≡ slice_index_or olds c d
  pub size : new.size ≡ old.size
  pub fill : new.fill ≡ old.fill
  pub held : (c : ℕ) → c < n → slice_index new.held c ≡ length (owns c)
  pub others_held : (c : ℕ) → n ≤ c → slice_index new.held c ≡ slice_index old.held c
  pub count : length new.held ≡ length old.held
  pub captures : length news ≡ length olds
  pub unit : new.unit ≡ filled_blocks old.fill owns n
  pub room : length new.unit ≤ 42_640 * n

-- A read of capture b failed within the block; those before it were read, and those after it are as they were.
pub record HasFailedAt {S : Type 0} (seen : S → Seen) (b : ℕ) (old : BuffersState) (olds news : List S) : Type 0 where
  pub capture : b < length olds
  pub owns : CaptureBytes
  pub gives : (c : ℕ) (d : S) → c < b → GivesBlock old.size (slice_index old.held c) (owns c) (seen (slice_index_or olds c d)) (seen (slice_index_or news c d))
  pub breaks : (d : S) → BreaksBlock old.size (slice_index old.held b) (owns b) (seen (slice_index_or olds b d)) (seen (slice_index_or news b d))
  pub none : (c : ℕ) → b < c → owns c ≡ []
  pub others : (c : ℕ) (d : S) → b < c → slice_index_or news c d ≡ slice_index_or olds c d

-- a unit isn't read, and the loop ends there
abbrev pub EndsBroken : {S : Type 0} → (S → Seen) → BuffersState → List S → List S → InterleaveEnd → Type 0
EndsBroken seen old olds news (ReadFault b) = HasFailedAt seen b old olds news
EndsBroken seen old olds news end = ⊥

-- a byte of some block was read
abbrev pub SomeCame : BuffersState → Type 0
SomeCame buffers = (c : ℕ) × (c < length buffers.held) × (0 < slice_index buffers.held c)

-- The blocks of a unit are to be written, or the loop ends there.
abbrev pub ChecksTo : BuffersState → ℕ → Result (Unit {0}) InterleaveEnd → Type 0
ChecksTo buffers k (Ok value) = SomeCame buffers × (buffers.fill ≡ false → (c : ℕ) → c < length buffers.held → buffers.size ≤ slice_index buffers.held c)
ChecksTo buffers k (Err Done) = (c : ℕ) → c < length buffers.held → slice_index buffers.held c ≡ 0
ChecksTo buffers k (Err (Short c block bytes)) =
    (block ≡ k) × (buffers.fill ≡ false) × SomeCame buffers × (c < length buffers.held) × ((b : ℕ) → b < c → buffers.size ≤ slice_index buffers.held b)
    × (slice_index buffers.held c ≡ bytes) × (bytes < buffers.size)
ChecksTo buffers k (Err end) = ⊥

-- Block k of each capture is read and written, or the loop ends there.
abbrev pub IsUnitInterleaved : {S : Type 0} → (S → Seen) → ℕ → BuffersState → BuffersState → List S → List S → Seen → Seen → Result (Unit {0}) InterleaveEnd → Type 0
IsUnitInterleaved seen k old new olds news before after (Ok value) =
    AreReadTo seen (length olds) old new olds news × ChecksTo new k (Ok value) × Appends before.bytes after.bytes new.unit × HasGoneOn before after
IsUnitInterleaved seen k old new olds news before after (Err (ReadFault b)) = HasFailedAt seen b old olds news × (after ≡ before)
IsUnitInterleaved seen k old new olds news before after (Err WriteFault) =
    AreReadTo seen (length olds) old new olds news × ChecksTo new k (Ok tt) × AppendsPrefix before.bytes after.bytes new.unit × HasFailed before after
IsUnitInterleaved seen k old new olds news before after (Err end) =
    AreReadTo seen (length olds) old new olds news × ChecksTo new k (Err end) × (after ≡ before)
