-- The exit statuses of the program.
use Rattle.std.specs.Prelude.{ℕ}
use Rattle.cap_top.specs.declared.status.Status.{Status}
use Rattle.cap_top.specs.declared.status.Status.TheVariants as status

-- the numbers that the program ends with
abbrev pub status_number : Status → ℕ
status_number status.Done = 0
status_number status.Usage = 1
status_number status.BadInput = 2
status_number status.ReadFault = 3
status_number status.WriteFault = 4
status_number status.Short = 5
status_number status.Long = 6
status_number status.NoMemory = 8
status_number status.ReportFault = 9
