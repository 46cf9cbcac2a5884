-- What a run of `interleave` does, for the bytes of its captures and for faults of its streams.
use Rattle.std.specs.Prelude.{◌⊎◌, ◌+◌, ℕ, List, ◌++◌, codes, decimal, length}
use Rattle.cap_interleave.specs.Blocks.{Task}
use Rattle.cap_interleave.specs.Interleaved.{IsInterleaved}
use Rattle.cap_interleave.specs.declared.ends.InterleaveEnd.{InterleaveEnd}
use Rattle.cap_interleave.specs.declared.ends.InterleaveEnd.TheVariants.{Done, Long, ReadFault, Short, WriteFault}
use Rattle.cap_top.specs.Closing.{EndsWith}
use Rattle.cap_top.specs.declared.status.Status.{Status}
use Rattle.cap_top.specs.declared.status.Status.TheVariants as status
use Rattle.cap_words.specs.declared.settings.InterleaveSettings.{InterleaveSettings}
use Rattle.dvd_capture.specs.Captured.{block_size}
use Rattle.dvd_ports.specs.Seen.{Seen}

-- the closing line of each end; files are counted from 1, as they are in the arguments
abbrev pub closing_line : InterleaveEnd → List ℕ
closing_line Done = codes "done\n"
closing_line (ReadFault c) = codes "file " ++ decimal (c + 1) ++ codes ": read fault\n"
closing_line WriteFault = codes "write fault\n"
closing_line (Short c k bytes) = codes "short: file " ++ decimal (c + 1) ++ codes ", block " ++ decimal k ++ codes ", " ++ decimal bytes ++ codes " bytes\n"
closing_line Long = codes "long\n"

-- the status of each end
abbrev pub status_of : InterleaveEnd → Status
status_of Done = status.Done
status_of (ReadFault c) = status.ReadFault
status_of WriteFault = status.WriteFault
status_of (Short c k bytes) = status.Short
status_of Long = status.Long

-- a task of blocks of the form that the settings name, for this number of captures
abbrev pub task_by : InterleaveSettings → ℕ → Task
task_by settings count = record { size = block_size settings.form; fill = settings.fill; count = count }

-- the blocks of the captures in turn were written up to this end, and the closing line names it
pub record HasRun {S : Type 0} (seen : S → Seen) (settings : InterleaveSettings) (olds news : List S) (old new old_report new_report : Seen) (result : Status) : Type 0 where
  pub end : InterleaveEnd
  pub interleaves : IsInterleaved seen (task_by settings (length olds)) olds news old new end
  pub closes : EndsWith (status_of end) (closing_line end) old_report new_report result

-- there was no memory, and the streams except the report are as they were
abbrev pub HasNoMemory : Type 0 → Seen → Seen → Status → Type 0
HasNoMemory Untouched old_report new_report result = Untouched × EndsWith status.NoMemory (codes "no memory\n") old_report new_report result

-- THE HEADLINE, of the captures and the output before and after, of the report, and of the status.
abbrev pub Headline : {S : Type 0} → (S → Seen) → InterleaveSettings → List S → List S → Type 0 → Seen → Seen → Seen → Seen → Status → Type 0
Headline seen settings olds news Untouched old new old_report new_report result =
    HasRun seen settings olds news old new old_report new_report result ⊎ HasNoMemory Untouched old_report new_report result
