-- A run of `draw`: its drawing, its line and its status.
use Rattle.std.specs.Prelude.{ℕ, List, ◌++◌, codes, decimal}
use Rattle.cap_draw.specs.Drawn.{HasDrawn}
use Rattle.cap_draw.specs.declared.drawing.DrawEnd.{DrawEnd}
use Rattle.cap_draw.specs.declared.drawing.DrawEnd.TheVariants.{Done, NoMemory, ReadFault, Rule, Short, WriteFault}
use Rattle.cap_top.specs.Closing.{EndsWith}
use Rattle.cap_top.specs.Causes.{rule_line}
use Rattle.cap_top.specs.declared.causes.LineCause.TheVariants as causes
use Rattle.cap_top.specs.declared.status.Status.{Status}
use Rattle.cap_top.specs.declared.status.Status.TheVariants as status
use Rattle.dvd_ports.specs.Seen.{Seen}

-- the closing line
abbrev pub draw_line : DrawEnd → List ℕ
draw_line Done = codes "done\n"
draw_line (Short line bytes) = codes "short: line " ++ decimal line ++ codes ", " ++ decimal bytes ++ codes " bytes\n"
draw_line ReadFault = codes "read fault\n"
draw_line WriteFault = codes "write fault\n"
draw_line (Rule fault) = rule_line (causes.Survey fault.cause) fault.line
draw_line NoMemory = codes "no memory\n"

-- the status
abbrev pub draw_status : DrawEnd → Status
draw_status Done = status.Done
draw_status (Short line bytes) = status.Short
draw_status ReadFault = status.ReadFault
draw_status WriteFault = status.WriteFault
draw_status (Rule fault) = status.BadInput
draw_status NoMemory = status.NoMemory

-- The survey is drawn in at most `most` columns, and the run ends with the line and the status of that.
pub record Runs (most : ℕ) (source new_source out new_out : Seen) (SourceSame OutSame : Type 0) (report new_report : Seen) (result : Status) : Type 0 where
  pub end : DrawEnd
  pub draws : HasDrawn most source new_source out new_out SourceSame OutSame end
  pub reported : EndsWith (draw_status end) (draw_line end) report new_report result
