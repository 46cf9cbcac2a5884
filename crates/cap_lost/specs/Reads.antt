-- What a report that is read from a source says.
use Rattle.std.specs.Prelude.{◌≡◌, ◌⊎◌, ℕ, ◌++◌, List, Ok, Err}
use Rattle.dvd_ports.specs.Bytes.{Consumes, IsAtEnd}
use Rattle.dvd_layout.specs.declared.layout.Layout.{Layout}
use Rattle.dvd_layout.specs.declared.layout.Zones.{Zones}
use Rattle.dvd_ports.specs.Causes.{HasFailed, HasGoneOn, HasMetEnd}
use Rattle.dvd_ports.specs.Seen.{Seen}
use Rattle.cap_lost.specs.Report.{Losses, losses_of}
use Rattle.cap_lost.specs.declared.fault.ReportCause.{ReportCause}
use Rattle.cap_lost.specs.declared.fault.ReportFault.{ReportFault}
use Rattle.cap_lost.specs.declared.fault.ReportFault.TheVariants.{NoMemory, ReadFault, Rule}

-- The report was read to its end, and says this. Its bytes are those of the source, where these are known.
pub record ReadsReport (layout : Layout) (zones : Zones) (old new : Seen) (losses : Losses) : Type 0 where
  pub text : List ℕ
  pub taken : Consumes old.bytes new.bytes text
  pub at_end : IsAtEnd new.bytes
  pub met : HasMetEnd old new
  pub says : losses_of layout zones text ≡ Ok losses

-- A line of what was read breaks a rule, however the report goes on, and no more of the report was read.
pub record BreaksReport (layout : Layout) (zones : Zones) (old new : Seen) (line : ℕ) (cause : ReportCause) : Type 0 where
  pub text : List ℕ
  pub taken : Consumes old.bytes new.bytes text
  pub on : HasGoneOn old new
  pub says : (rest : List ℕ) → losses_of layout zones (text ++ rest) ≡ Err (Rule line cause)

-- Or it was read to its end, and breaks a rule there.
pub record BreaksAtEnd (layout : Layout) (zones : Zones) (old new : Seen) (line : ℕ) (cause : ReportCause) : Type 0 where
  pub text : List ℕ
  pub taken : Consumes old.bytes new.bytes text
  pub at_end : IsAtEnd new.bytes
  pub met : HasMetEnd old new
  pub says : losses_of layout zones text ≡ Err (Rule line cause)

-- why a report says nothing
abbrev pub IsReportRefused : Layout → Zones → Seen → Seen → ReportFault → Type 0
IsReportRefused layout zones old new NoMemory = Unit {0}
IsReportRefused layout zones old new ReadFault = HasFailed old new
IsReportRefused layout zones old new (Rule line cause) = BreaksReport layout zones old new line cause ⊎ BreaksAtEnd layout zones old new line cause
