-- The exit statuses of the program.
use Rattle.std.specs.Prelude.{ℕ}
use Rattle.dvd_loop.specs.declared.ends.LoopEnd.{LoopEnd}
use Rattle.dvd_loop.specs.declared.ends.LoopEnd.TheVariants as ends
use Rattle.dvd_top.specs.declared.status.Status.{Status}
use Rattle.dvd_top.specs.declared.status.Status.TheVariants as status

-- the status of each end
abbrev pub status_of : LoopEnd → Status
status_of ends.Done = status.Done
status_of ends.ReadFault = status.ReadFault
status_of ends.WriteFault = status.WriteFault
status_of ends.ReportFault = status.ReportFault
status_of (ends.Short unit bytes) = status.Short
status_of ends.Long = status.Long
status_of (ends.Damaged blocks) = status.Damaged
status_of ends.NoControl = status.NoControl
status_of (ends.BadMarks block at) = status.BadMarks
status_of (ends.ShortHeader bytes) = status.Short
status_of (ends.BadHeader at) = status.BadHeader

-- the numbers that the program ends with
abbrev pub status_number : Status → ℕ
status_number status.Done = 0
status_number status.Usage = 1
status_number status.Setting = 2
status_number status.ReadFault = 3
status_number status.WriteFault = 4
status_number status.Short = 5
status_number status.Long = 6
status_number status.Damaged = 7
status_number status.NoMemory = 8
status_number status.ReportFault = 9
status_number status.NoControl = 10
status_number status.BadHeader = 11
status_number status.BadMarks = 12
