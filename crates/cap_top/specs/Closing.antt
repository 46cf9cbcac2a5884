-- The lines of reports that several commands have, and the status that goes with the last.
use Rattle.std.specs.Prelude.{◌≡◌, ◌⊎◌, ℕ, List, codes}
use Rattle.dvd_ports.specs.Bytes.{Appends}
use Rattle.cap_top.specs.declared.status.Status.{Status}
use Rattle.cap_top.specs.declared.status.Status.TheVariants as status
use Rattle.dvd_words.specs.declared.fault.WordsFault.{WordsFault}
use Rattle.dvd_words.specs.declared.fault.WordsFault.TheVariants as words
use Rattle.dvd_ports.specs.Causes.{HasFailed, HasGoneOn}
use Rattle.dvd_ports.specs.Seen.{Seen}
use Rattle.dvd_ports.specs.Whole.{AppendsPrefix}

-- the line is written and the status is the one wanted, or the report failed within the line
abbrev pub EndsWith : Status → List ℕ → Seen → Seen → Status → Type 0
EndsWith wanted line old new result =
    ((result ≡ wanted) × Appends old.bytes new.bytes line × HasGoneOn old new) ⊎ ((result ≡ status.ReportFault) × AppendsPrefix old.bytes new.bytes line × HasFailed old new)

-- the line of arguments that aren't read
abbrev pub words_line : WordsFault → List ℕ
words_line words.Usage = codes "usage\n"
words_line words.NoMemory = codes "no memory\n"

-- their status
abbrev pub words_status : WordsFault → Status
words_status words.Usage = status.Usage
words_status words.NoMemory = status.NoMemory
