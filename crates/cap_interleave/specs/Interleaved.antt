-- What a loop over the blocks of several captures does to its streams, and how it ends.
use Rattle.std.specs.Prelude.{◌≡◌, ◌≢◌, ◌⊎◌, ℕ, suc, ◌+◌, ◌-◌, ◌*◌, ◌^◌, ◌<◌, ◌≤◌, false, List, [], ◌++◌, length, slice_index_or}
use Rattle.dvd_ports.specs.Bytes.{Appends, Consumes, IsAtEnd}
use Rattle.cap_interleave.specs.Blocks.{CaptureBytes, Task, unit_bytes, units_of}
use Rattle.cap_interleave.specs.declared.ends.InterleaveEnd.{InterleaveEnd}
use Rattle.cap_interleave.specs.declared.ends.InterleaveEnd.TheVariants.{Done, Long, ReadFault, Short, WriteFault}
use Rattle.dvd_ports.specs.Causes.{HasFailed, HasGoneOn, HasMetEnd}
use Rattle.dvd_ports.specs.Seen.{Seen}

-- each capture has block k whole
abbrev pub HaveWhole : Task → CaptureBytes → ℕ → Type 0
HaveWhole task captures k = (c : ℕ) → c < task.count → task.size * suc k ≤ length (captures c)

-- one of them has a byte of it
abbrev pub HaveSome : Task → CaptureBytes → ℕ → Type 0
HaveSome task captures k = (c : ℕ) × (c < task.count) × (task.size * k < length (captures c))

-- Block k of the captures is written: one of them has a byte of it, and each has it whole where blocks aren't filled.
pub record AreDue (task : Task) (captures : CaptureBytes) (k : ℕ) : Type 0 where
  pub some : HaveSome task captures k
  pub whole : task.fill ≡ false → HaveWhole task captures k

-- Capture c is the first that doesn't have block k whole: it has `bytes` bytes of it, and one of the captures has a
-- byte of it.
pub record IsFirstShort (task : Task) (captures : CaptureBytes) (k c bytes : ℕ) : Type 0 where
  pub not_filled : task.fill ≡ false
  pub some : HaveSome task captures k
  pub capture : c < task.count
  pub before : (b : ℕ) → b < c → task.size * suc k ≤ length (captures b)
  pub held : length (captures c) ≡ task.size * k + bytes
  pub fewer : bytes < task.size

-- how a loop ends that has written `units` blocks of each capture, where no stream failed
abbrev pub EndsInterleave : Task → CaptureBytes → ℕ → InterleaveEnd → Type 0
EndsInterleave task captures units Done = (c : ℕ) → c < task.count → length (captures c) ≤ task.size * units
EndsInterleave task captures units (Short c k bytes) = (k ≡ units) × IsFirstShort task captures units c bytes
EndsInterleave task captures units WriteFault = AreDue task captures units
EndsInterleave task captures units (ReadFault c) = c < task.count
EndsInterleave task captures units Long = units ≡ 2 ^ 32 - 1

-- A source was asked for n blocks, and these bytes came: all, or fewer, and then the last call met its end.
pub record HasGiven (size n : ℕ) (came : List ℕ) (old new : Seen) : Type 0 where
  pub reads : Consumes old.bytes new.bytes came
  pub answers : ((length came ≡ size * n) × HasGoneOn old new) ⊎ ((length came < size * n) × IsAtEnd new.bytes × HasMetEnd old new)

-- After n blocks a read failed within the next one, and was the last call.
pub record HasFailedWithin (size n : ℕ) (came : List ℕ) (old new : Seen) : Type 0 where
  pub reads : Consumes old.bytes new.bytes came
  pub whole : size * n ≤ length came
  pub fewer : length came < size * suc n
  pub failed : HasFailed old new

-- What came of capture c: the blocks that were written, and what there is of the next one. The next wasn't read of
-- captures after one whose read failed, or once 2 ^ 32 - 1 blocks were written.
abbrev pub Gives : ℕ → ℕ → InterleaveEnd → ℕ → List ℕ → Seen → Seen → Type 0
Gives size units (ReadFault broken) c came old new =
    (c < broken → HasGiven size (suc units) came old new) × (c ≡ broken → HasFailedWithin size units came old new) × (broken < c → HasGiven size units came old new)
Gives size units Long c came old new = HasGiven size units came old new
Gives size units end c came old new = HasGiven size (suc units) came old new

-- A write failed within the bytes of a unit, after those of the units before: a prefix was written, and something was
-- left.
pub record IsCutWithin (before unit : List ℕ) (old new : Seen) : Type 0 where
  pub prefix : List ℕ
  pub left : List ℕ
  pub parts : unit ≡ prefix ++ left
  pub more : left ≢ []
  pub writes : Appends old.bytes new.bytes (before ++ prefix)
  pub failed : HasFailed old new

-- what was written
abbrev pub Writes : Task → CaptureBytes → ℕ → InterleaveEnd → Seen → Seen → Type 0
Writes task captures units WriteFault old new = IsCutWithin (units_of task captures units) (unit_bytes task captures units task.count) old new
Writes task captures units end old new = Appends old.bytes new.bytes (units_of task captures units) × HasGoneOn old new

-- The loop has written `units` blocks of each capture, by the bytes that came of each, and ended there. Each fault is
-- one failed call of its stream, and its last; no other stream failed, and none was asked for more after its end.
pub record IsInterleaved {S : Type 0} (seen : S → Seen) (task : Task) (olds news : List S) (old new : Seen) (end : InterleaveEnd) : Type 0 where
  pub came : CaptureBytes
  pub units : ℕ
  pub few : units < 2 ^ 32
  pub due : (k : ℕ) → k < units → AreDue task came k
  pub gives : (c : ℕ) (d : S) → c < task.count → Gives task.size units end c (came c) (seen (slice_index_or olds c d)) (seen (slice_index_or news c d))
  pub writes : Writes task came units end old new
  pub ends : EndsInterleave task came units end
