-- The headline of `lost`: what a run does, for its settings, for the bytes of the report that it reads and for faults
-- of its streams.
pub mod Lines
use Rattle.std.specs.Prelude.{◌≡◌, ◌⊎◌, Some, List, ℕ, Result, Ok, Err, codes}
use Rattle.cap_lost.specs.Map.{map_text}
use Rattle.cap_lost.specs.Reads.{IsReportRefused, ReadsReport}
use Rattle.cap_lost.specs.Report.{Losses}
use Rattle.cap_lost.specs.declared.fault.ReportFault.{ReportFault}
use Rattle.cap_lost.specs.declared.fault.ReportFault.TheVariants.{NoMemory, ReadFault, Rule}
use Rattle.cap_top.specs.Closing.{EndsWith}
use Rattle.cap_top.specs.Lost.Lines.{refusal_line}
use Rattle.cap_top.specs.declared.status.Status.{Status}
use Rattle.cap_top.specs.declared.status.Status.TheVariants as status
use Rattle.dvd_layout.specs.Place.{total_sectors}
use Rattle.dvd_layout.specs.declared.fault.LayoutFault.{LayoutFault}
use Rattle.dvd_layout.specs.declared.layout.Layout.{Layout}
use Rattle.dvd_layout.specs.declared.layout.Zones.{Zones}
use Rattle.dvd_loop.specs.Streams.{Streams}
use Rattle.dvd_ports.specs.Whole.{IsWritten}
use Rattle.dvd_ports.specs.declared.port.WriteFault.{WriteFault}
use Rattle.dvd_report.specs.Setting.{setting_line}
use Rattle.dvd_words.specs.Settings.{IsLayoutOf, broken_rule}
use Rattle.dvd_words.specs.declared.settings.Settings.{Settings}

-- the status of a run whose report isn't read
abbrev pub refusal_status : ReportFault → Status
refusal_status NoMemory = status.NoMemory
refusal_status ReadFault = status.ReadFault
refusal_status (Rule line cause) = status.BadInput

-- the status of a run that wrote its map, or failed within it, and its line
abbrev pub status_by : Result (Unit {0}) WriteFault → Status
status_by (Ok done) = status.Done
status_by (Err fault) = status.WriteFault

abbrev pub line_by : Result (Unit {0}) WriteFault → List ℕ
line_by (Ok done) = codes "done\n"
line_by (Err fault) = codes "write fault\n"

-- The report was read to its end, and the map of what it says is written: of the sectors that it loses, of those that
-- weren't written, and of all sectors of the layout.
pub record HasMapped (layout : Layout) (zones : Zones) (old new : Streams) (result : Status) : Type 0 where
  pub losses : Losses
  pub reads : ReadsReport layout zones old.source new.source losses
  pub answer : Result (Unit {0}) WriteFault
  pub writes : IsWritten (map_text losses.extents losses.written (total_sectors layout)) old.output new.output answer
  pub reported : EndsWith (status_by answer) (line_by answer) old.report new.report result

-- The report isn't read, and nothing is written.
pub record HasRefused (layout : Layout) (zones : Zones) (Untouched : Type 0) (old new : Streams) (result : Status) : Type 0 where
  pub fault : ReportFault
  pub is_refused : IsReportRefused layout zones old.source new.source fault
  pub untouched : Untouched
  pub reported : EndsWith (refusal_status fault) (refusal_line fault) old.report new.report result

-- a run of this layout
abbrev pub HasRunByLayout : Layout → Zones → Type 0 → Streams → Streams → Status → Type 0
HasRunByLayout layout zones Untouched old new result = HasMapped layout zones old new result ⊎ HasRefused layout zones Untouched old new result

-- The layout breaks a rule: nothing is read, and nothing written.
pub record HasBroken (settings : Settings) (Unread Untouched : Type 0) (old new : Streams) (result : Status) : Type 0 where
  pub fault : LayoutFault
  pub breaks : broken_rule settings ≡ Some fault
  pub unread : Unread
  pub untouched : Untouched
  pub reported : EndsWith status.BadInput (setting_line fault) old.report new.report result

-- it breaks none
pub record HasRun (settings : Settings) (Untouched : Type 0) (old new : Streams) (result : Status) : Type 0 where
  pub layout : Layout
  pub is_layout : IsLayoutOf settings layout
  pub ended : HasRunByLayout layout settings.zones Untouched old new result

-- THE HEADLINE, of the settings, of the streams before and after, and of the status.
abbrev pub Headline : Settings → Type 0 → Type 0 → Streams → Streams → Status → Type 0
Headline settings Unread Untouched old new result = HasRun settings Untouched old new result ⊎ HasBroken settings Unread Untouched old new result
