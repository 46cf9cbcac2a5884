-- The three streams that a command is handed, and what a call has done to them.
use Rattle.std.specs.Prelude.{◌≡◌, ◌⊎◌, ℕ, Option, Some, None, Bool, true, false, List, []}
use Rattle.dvd_ports.specs.Bytes.{Appends, Bytes, Consumes}
use Rattle.dvd_ports.specs.Causes.{HasFailed, HasGoneOn, HasMetEnd}
use Rattle.dvd_ports.specs.Seen.{Seen}
use Rattle.dvd_loop.specs.Machine.{Outcome}
use Rattle.dvd_loop.specs.declared.ends.LoopEnd.{LoopEnd}
use Rattle.dvd_loop.specs.declared.ends.LoopEnd.TheVariants.{Damaged, Done, ReadFault, ReportFault, Short, ShortHeader, WriteFault}

-- what is seen of the source, of the output and of the report
pub record Streams : Type 0 where
  pub source : Seen
  pub output : Seen
  pub report : Seen

-- these three
abbrev pub streams : Seen → Seen → Seen → Streams
streams source output report = record { source = source; output = output; report = report }

-- a stream that never stops, once it has moved these bytes
abbrev pub untroubled : List ℕ → Seen
untroubled moved = record { bytes = record { moved = moved; left = None }; faults = 0; ends = 0; stopped = false }

-- a stream that is not there
abbrev pub no_stream : Seen
no_stream = untroubled []

-- these bytes are left, where it is known what is left
abbrev pub AreLeft : Option (List ℕ) → List ℕ → Type 0
AreLeft None bytes = Unit {0}
AreLeft (Some known) bytes = known ≡ bytes

-- so it is of the bytes of a source
abbrev pub AreKnown : Bytes → List ℕ → Type 0
AreKnown source bytes = AreLeft source.left bytes

-- the source has given what was read, and the output and the report have grown by what was written to them
pub record HaveMoved (old new : Streams) (taken out lines : List ℕ) : Type 0 where
  pub reads : Consumes old.source.bytes new.source.bytes taken
  pub writes : Appends old.output.bytes new.output.bytes out
  pub reports : Appends old.report.bytes new.report.bytes lines

-- There are bytes, those that the source has left where they are known, and an outcome of P over them with this end, and
-- the streams have moved by that outcome.
pub record HaveReached (P : List ℕ → Outcome → Type 0) (old new : Streams) (end : LoopEnd) : Type 0 where
  pub bytes : List ℕ
  pub known : AreKnown old.source.bytes bytes
  pub outcome : Outcome
  pub holds : P bytes outcome
  pub ends : outcome.end ≡ end
  pub moved : HaveMoved old new outcome.taken outcome.out outcome.lines

-- None of the streams stopped.
pub record HaveGoneOn (old new : Streams) : Type 0 where
  pub source : HasGoneOn old.source new.source
  pub output : HasGoneOn old.output new.output
  pub report : HasGoneOn old.report new.report

-- The counts of the source by the end of a loop. The one read that failed was its last, or the one that met the end of
-- the input. Where the loop is done, none need have met it, since a command may request nothing after its last unit.
abbrev pub SourceCounts : LoopEnd → Seen → Seen → Type 0
SourceCounts ReadFault old new = HasFailed old new
SourceCounts (Short unit bytes) old new = HasMetEnd old new
SourceCounts (ShortHeader bytes) old new = HasMetEnd old new
SourceCounts (Damaged units) old new = HasMetEnd old new
SourceCounts Done old new = HasMetEnd old new ⊎ HasGoneOn old new
SourceCounts other old new = HasGoneOn old new

-- whether a loop ended because a write failed
abbrev pub is_write_fault : LoopEnd → Bool
is_write_fault WriteFault = true
is_write_fault end = false

-- whether it ended because a line of the report failed
abbrev pub is_report_fault : LoopEnd → Bool
is_report_fault ReportFault = true
is_report_fault end = false

-- the one call of a sink that failed was its last, or none failed
abbrev pub Counts : Bool → Seen → Seen → Type 0
Counts true old new = HasFailed old new
Counts false old new = HasGoneOn old new

-- The ends of the loop and of the run with its closing line: each fault among the two is one failed call of its stream,
-- and its last call; no other stream failed.
pub record HaveCauses (within end : LoopEnd) (old new : Streams) : Type 0 where
  pub source : SourceCounts within old.source new.source
  pub output : Counts (is_write_fault within) old.output new.output
  pub report : Counts (is_report_fault end) old.report new.report

-- A loop has ended in this way: with an outcome of P, by which the streams have moved. After a fault or the end of the
-- input nothing more was requested of that stream.
pub record HasEnded (P : List ℕ → Outcome → Type 0) (old new : Streams) (end : LoopEnd) : Type 0 where
  pub comes : HaveReached P old new end
  pub causes : HaveCauses end end old new
