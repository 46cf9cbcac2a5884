-- What only the private functions of this crate promise. No public contract cites this page.
use Rattle.std.specs.Prelude.{◌≡◌, ℕ, ◌+◌, ◌*◌, ◌≤◌, ◌<◌, ◌^◌, Option, Some, None, List, ◌++◌, length, Result, Err}
use Rattle.dvd_ports.specs.Bytes.{Appends, Consumes}
use Rattle.cap_map.specs.Fields.{line_length, lines_of}
use Rattle.dvd_layout.specs.declared.layout.Layout.{Layout}
use Rattle.dvd_layout.specs.declared.layout.Zones.{Zones}
use Rattle.dvd_ports.specs.Causes.{HasGoneOn}
use Rattle.dvd_ports.specs.Seen.{Seen}
use Rattle.cap_lost.specs.Report.{Losses, Sayings, lines_read, losses_of}
use Rattle.cap_lost.specs.declared.draft.LossesDraft.{LossesDraft}
use Rattle.cap_lost.specs.declared.draft.Said.{Said}
use Rattle.cap_lost.specs.declared.draft.Said.TheVariants as said
use Rattle.cap_lost.specs.declared.draft.ReportStop.{ReportStop}
use Rattle.cap_lost.specs.declared.draft.ReportStop.TheVariants as stop
use Rattle.cap_lost.specs.declared.fault.ReportCause.{ReportCause}
use Rattle.cap_lost.specs.declared.fault.ReportFault.{ReportFault}
use Rattle.cap_lost.specs.declared.fault.ReportFault.TheVariants as faults
use Rattle.cap_lost.specs.declared.reader.Reader.{Reader}

-- a draft, as what was said
abbrev pub sayings_of : LossesDraft → Sayings
sayings_of draft = record { extents = draft.extents.items; next = draft.next; refused = draft.refused; written = draft.written }

-- a line isn't accepted because it breaks this rule, or there is no memory
abbrev pub IsStopOf : {A : Type 0} → Result A ReportCause → ReportStop → Type 0
IsStopOf read stop.NoMemory = Unit {0}
IsStopOf read (stop.Rule cause) = read ≡ Err cause

-- a line names a block that has sectors
abbrev pub NamesSectors : Said → Type 0
NamesSectors (said.Refused extent) = extent.from < extent.to
NamesSectors (said.GivenBack extent) = extent.from < extent.to
NamesSectors (said.Ended refused written) = Unit {0}

-- what a report says that has these bytes after what a reader has read
abbrev pub goes_on : Reader → List ℕ → Result Losses ReportFault
goes_on reader rest = lines_read reader.layout reader.zones (sayings_of reader.draft) reader.number (lines_of (reader.line.items ++ rest))

-- however the report goes on, it has this fault
abbrev pub StopsAs : (List ℕ → Result Losses ReportFault) → ReportFault → Type 0
StopsAs says faults.NoMemory = Unit {0}
StopsAs says faults.ReadFault = ⊥
StopsAs says (faults.Rule line cause) = (rest : List ℕ) → says rest ≡ Err (faults.Rule line cause)

-- 1 where the closing line came, else 0: the number of such lines
abbrev pub closing_count : Option ℕ → ℕ
closing_count None = 0
closing_count (Some written) = 1

-- Each damage line names at least one sector, and a sector number has 32 bits.
pub record IsCounted (draft : LossesDraft) : Type 0 where
  pub refused : draft.refused ≤ draft.next
  pub below : draft.next < 2 ^ 32

-- Each line except the closing one names at least one sector. The next line isn't too long, and no byte of it ends it.
pub record IsReaderSound (reader : Reader) : Type 0 where
  pub number : reader.number ≤ reader.draft.next + closing_count reader.draft.written + 1
  pub counted : IsCounted reader.draft
  pub within : line_length reader.line.items ≡ length reader.line.items
  pub short : length reader.line.items ≤ 128

-- a reader has read at least this number of bytes more, where each line counts as 129
abbrev pub HasReadOn : ℕ → Reader → Reader → Type 0
HasReadOn bytes old new = 129 * old.number + length old.line.items + bytes ≤ 129 * new.number + length new.line.items

-- The rest of a text is left to be written. What comes before it was written, and no write failed.
pub record IsUnwritten (whole rest : List ℕ) (old now : Seen) : Type 0 where
  pub prefix : List ℕ
  pub grows : Appends old.bytes now.bytes prefix
  pub splits : prefix ++ rest ≡ whole
  pub steady : HasGoneOn old now

-- what a reader has of a report, after what was read of it
pub record HasCome (layout : Layout) (zones : Zones) (old now : Seen) (reader : Reader) : Type 0 where
  pub text : List ℕ
  pub taken : Consumes old.bytes now.bytes text
  pub on : HasGoneOn old now
  pub says : (rest : List ℕ) → losses_of layout zones (text ++ rest) ≡ goes_on reader rest
  pub sound : IsReaderSound reader
