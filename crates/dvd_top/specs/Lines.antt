-- The closing lines of the report, one for each end of a run. Each ends with one line feed.
use Rattle.std.specs.Prelude.{List, ℕ, [], ◌++◌, codes, decimal}
use Rattle.dvd_loop.specs.declared.ends.LoopEnd.{LoopEnd}
use Rattle.dvd_loop.specs.declared.ends.LoopEnd.TheVariants.{Done, ReadFault, WriteFault, ReportFault, Short, Long, Damaged, NoControl, BadMarks, ShortHeader, BadHeader}
use Rattle.dvd_words.specs.Table.{command_entry}
use Rattle.dvd_words.specs.declared.table.Command.{Command}
use Rattle.dvd_words.specs.declared.table.Unit.{Unit}
use Rattle.dvd_words.specs.declared.table.Unit.TheVariants.{Sector, Block, Frame}

-- what the units of a command are called
abbrev pub unit_name : Unit → List ℕ
unit_name Sector = codes "sector"
unit_name Block = codes "block"
unit_name Frame = codes "frame"

-- the line of each end; empty after a fault of the report
abbrev pub closing_line : Command → LoopEnd → List ℕ
closing_line command Done = codes "done\n"
closing_line command ReadFault = codes "read fault\n"
closing_line command WriteFault = codes "write fault\n"
closing_line command ReportFault = []
closing_line command (Short unit bytes) = codes "short: " ++ unit_name (command_entry command).unit ++ codes " " ++ decimal unit ++ codes ", " ++ decimal bytes ++ codes " bytes\n"
closing_line command Long = codes "long\n"
closing_line command (Damaged blocks) = codes "damaged: " ++ decimal blocks ++ codes " " ++ unit_name (command_entry command).unit ++ codes "s\n"
closing_line command NoControl = codes "no control block\n"
closing_line command (BadMarks block at) = codes "bad marks: block " ++ decimal block ++ codes ", byte " ++ decimal at ++ codes "\n"
closing_line command (ShortHeader bytes) = codes "short: header, " ++ decimal bytes ++ codes " bytes\n"
closing_line command (BadHeader at) = codes "bad header: byte " ++ decimal at ++ codes "\n"
