-- What one call of `run` does, in the order of a call. Its contract is the record `Headline` at the end.
use Rattle.std.specs.Prelude.{◌≡◌, ◌≢◌, ◌⊎◌, List, ℕ, ◌++◌, Some, None, codes}
use Rattle.dvd_ports.specs.Bytes.{Appends}
use Rattle.dvd_layout.specs.declared.fault.LayoutFault.{LayoutFault}
use Rattle.dvd_loop.specs.Laws.{IsFaultless}
use Rattle.dvd_loop.specs.Machine.{Closes, Outcome}
use Rattle.dvd_loop.specs.Streams.{HaveCauses, HaveMoved, Streams}
use Rattle.dvd_loop.specs.declared.ends.LoopEnd.{LoopEnd}
use Rattle.dvd_loop.specs.declared.ends.LoopEnd.TheVariants as ends
use Rattle.dvd_ports.specs.Causes.{HasFailed, HasGoneOn, HasMetEnd}
use Rattle.dvd_ports.specs.Seen.{Seen}
use Rattle.dvd_ports.specs.Whole.{AppendsPrefix}
use Rattle.dvd_commands.specs.Bound.{KeepsBound, KeepsGoodFrames, Rescues}
use Rattle.dvd_commands.specs.CdBound.{KeepsSectors}
use Rattle.dvd_commands.specs.Commands.{GoesOver, breaks}
use Rattle.dvd_report.specs.Setting.{setting_line}
use Rattle.dvd_top.specs.Lines.{closing_line}
use Rattle.dvd_commands.specs.Opening.{AfterHeader, Opens}
use Rattle.dvd_top.specs.Promises.{GivesImage, Masters, NoneFailed, Recovers}
use Rattle.dvd_top.specs.Statuses.{status_of}
use Rattle.dvd_words.specs.Reading.{reading}
use Rattle.dvd_words.specs.declared.table.Command.{Command}
use Rattle.dvd_words.specs.declared.table.Command.TheVariants.{CdRead, Exercise, Info, Recover}
use Rattle.dvd_words.specs.declared.settings.Settings.{Settings}
use Rattle.dvd_top.specs.declared.status.Status.{Status}
use Rattle.dvd_top.specs.declared.status.Status.TheVariants as status

-- ARGUMENTS AND LAYOUT. `reading` gives the settings that the arguments ask for, or None where they are invalid, and
-- `breaks` the first rule of layouts that these break. A listed capture states its layout in a header, read later.

-- LOOP. A command cuts its input into units, as `recover` and `master` into blocks, and says on its page of
-- dvd_commands what is done for each. A unit is acted on only when all its bytes have come. Its steps are done in
-- order: each writes to the output or reports a line. `recover` reports the damage line of a refused block, and then
-- writes its sectors; an accepted block has no line, and beyond the bound it may be a wrong one. After the last unit
-- every command but `info` and `exercise` reads one more byte. If it comes the end is Long (status 6), with all
-- written; else Done (0), or Damaged (7) where a unit was refused. Short (5): the input ended before. Where a read
-- fails (3) nothing is done of its unit. Where a write (4) or a line (9) fails, all before it was done, perhaps a first
-- part of it, and nothing after it.
abbrev pub IsLoop : Settings → List ℕ → Outcome → Type 0
IsLoop settings bytes outcome = Opens settings.form GoesOver settings bytes outcome

-- The input ended: within a header or a unit, or after the last unit. There every command but `info` and `exercise`
-- reads one more byte, so that it ends as Done or Damaged only where none came.
abbrev pub InputEnded : Command → LoopEnd → Type 0
InputEnded command (ends.ShortHeader bytes) = Unit {0}
InputEnded command (ends.Short unit bytes) = Unit {0}
InputEnded command (ends.Damaged blocks) = Unit {0}
InputEnded command ends.Done = (command ≢ Info) × (command ≢ Exercise)
InputEnded command other = ⊥

-- PRESCRIBED. What a loop did is what the command's page prescribes for an input of these bytes, and so each promise of
-- the command holds of these bytes, whatever ended the loop.
pub record IsPrescribed (settings : Settings) (bytes : List ℕ) (loop : Outcome) : Type 0 where
  pub is_loop : IsLoop settings bytes loop
  -- no bytes come after an end that was met: then these are all that was read
  pub all : InputEnded settings.command loop.end → bytes ≡ loop.taken
  -- `recover` and `deep`: each block within the bound (2 · bad rows + lost rows ≤ 16) that came gives its mastered
  -- sectors, whatever became of the others; a failed write or line cuts the output where it failed
  pub bound : Rescues settings.command → AfterHeader settings.form KeepsBound settings bytes loop
  -- `recover`: likewise each sector whose twelve rows are good, in a block that two passes refuse
  pub good_frames : settings.command ≡ Recover → AfterHeader settings.form KeepsGoodFrames settings bytes loop
  -- `cdread`: likewise each CD-ROM sector that its codewords can correct (`IsCorrectableHalf`) gives its user data
  pub sectors : settings.command ≡ CdRead → KeepsSectors settings bytes loop

-- RUN. One run of a command with these settings.
pub record IsRun (settings : Settings) (old new : Streams) (result : Status) : Type 0 where
  -- what the loop did, and then the closing line of its end, as `read fault`: none after a failed report
  pub loop : Outcome
  pub line : Outcome
  pub closes : Closes (closing_line settings.command) loop.end line
  -- The reads returned exactly the bytes `loop.taken`, of a file or a pipe too. The writes accepted exactly `loop.out`,
  -- and of the report exactly the lines and the closing line.
  pub moved : HaveMoved old new loop.taken loop.out (loop.lines ++ line.lines)
  -- It is what is prescribed for an input of exactly the bytes that the reads returned; and where it is known which bytes
  -- the source had, for an input of these.
  pub returned : IsPrescribed settings loop.taken loop
  pub known : (bytes : List ℕ) → old.source.bytes.left ≡ Some bytes → IsPrescribed settings bytes loop
  pub is_status : result ≡ status_of line.end
  pub memory : result ≢ status.NoMemory
  -- each fault is one failed call, the last of its stream; only the closing line may fail after another fault; Short
  -- and Damaged, of a pipe too, come only after a read that met the end of the input
  pub causes : HaveCauses loop.end line.end old new
  pub complete : NoneFailed old new → IsFaultless line.end × (line.end ≡ loop.end)
  -- a failed read: the output, and the report up to the closing line, are those of an input that ends there
  pub read_fault : loop.end ≡ ends.ReadFault
      → (end : LoopEnd) × IsFaultless end × IsLoop settings loop.taken (record loop { end = end })

-- NO RUN. The report gets one line, and the status is the one wanted; or the report failed within the line.
abbrev pub Reports : Status → List ℕ → Seen → Seen → Status → Type 0
Reports wanted line old new result =
    ((result ≡ wanted) × Appends old.bytes new.bytes line × HasGoneOn old new)
    ⊎ ((result ≡ status.ReportFault) × AppendsPrefix old.bytes new.bytes line × HasFailed old new)

-- source and output, which `old` and `new` show, are the very objects that they were
abbrev pub Untouched : {S K : Type 0} → S → S → K → K → Type 0
Untouched src src_now out out_now = (src_now ≡ src) × (out_now ≡ out)

-- CALL. It is one of four things. IsNoMemory (8) may come in place of each other one, but only before a byte is read or
-- written: no run that began ends with it, and without threads the work is done by one. That memory was short is not
-- claimed.
pub data Call (untouched : Type 0) (words : List (List ℕ)) (old new : Streams) (result : Status) : Type 0 where
  IsUsageError : reading words ≡ None → untouched → Reports status.Usage (codes "usage\n") old.report new.report result
      → Call untouched words old new result
  IsSetting : (settings : Settings) (fault : LayoutFault) → reading words ≡ Some settings → breaks settings ≡ Some fault
      → untouched → Reports status.Setting (setting_line fault) old.report new.report result
      → Call untouched words old new result
  IsNoMemory : untouched → Reports status.NoMemory (codes "no memory\n") old.report new.report result
      → Call untouched words old new result
  IsRunOf : (settings : Settings) → reading words ≡ Some settings → breaks settings ≡ None
      → IsRun settings old new result → Call untouched words old new result

-- FAULTS, by the status. Nothing is tried again: a failed call is its stream's last, and so is a read that met the end.
abbrev pub HaveFailed : Status → Streams → Streams → Type 0
HaveFailed status.ReadFault old new =
    HasFailed old.source new.source × HasGoneOn old.output new.output × HasGoneOn old.report new.report
HaveFailed status.WriteFault old new =
    HasGoneOn old.source new.source × HasFailed old.output new.output × HasGoneOn old.report new.report
HaveFailed status.ReportFault old new = HasFailed old.report new.report
HaveFailed other old new =
    (HasMetEnd old.source new.source ⊎ HasGoneOn old.source new.source)
    × HasGoneOn old.output new.output × HasGoneOn old.report new.report

-- THE HEADLINE. The last three say the promise again with no loop or unit, on the page Promises. `master` rests on `reading`, and on `plan_of`, `data_frame`, `IsBlockOf` and
-- `recording`, to which docs/DEFINITIONS leads from the standard; the others also on what two passes and salvage give.
pub record Headline {S K : Type 0} (src src_now : S) (out out_now : K)
    (words : List (List ℕ)) (old new : Streams) (result : Status) : Type 0 where
  pub call : Call (Untouched src src_now out out_now) words old new result
  pub faults : HaveFailed result old new
  pub master : (settings : Settings) → reading words ≡ Some settings → Masters settings old new result
  pub recover : (settings : Settings) → reading words ≡ Some settings → Recovers settings old new result
  pub round_trip : (settings : Settings) → reading words ≡ Some settings → GivesImage settings old new result
