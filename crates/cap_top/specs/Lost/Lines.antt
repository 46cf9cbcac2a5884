-- The lines of the report of `lost`. Each ends with one line feed.
use Rattle.std.specs.Prelude.{ℕ, List, codes}
use Rattle.cap_lost.specs.declared.fault.ReportFault.{ReportFault}
use Rattle.cap_lost.specs.declared.fault.ReportFault.TheVariants.{NoMemory, ReadFault, Rule}
use Rattle.cap_top.specs.Causes.{rule_line}
use Rattle.cap_top.specs.declared.causes.LineCause.TheVariants as causes

-- the line of a report that isn't read
abbrev pub refusal_line : ReportFault → List ℕ
refusal_line NoMemory = codes "no memory\n"
refusal_line ReadFault = codes "read fault\n"
refusal_line (Rule line cause) = rule_line (causes.Report cause) line
