-- What a command does before its closing line: how its loop ended, or why it doesn't begin.
use Rattle.std.specs.Prelude.{◌≡◌, Result, Ok, Err, None, Some}
use Rattle.dvd_loop.specs.Streams.{HasEnded, Streams, streams}
use Rattle.dvd_loop.specs.declared.ends.LoopEnd.{LoopEnd}
use Rattle.dvd_ports.specs.Seen.{Seen}
use Rattle.dvd_commands.specs.Commands.{GoesOver, breaks, meaning}
use Rattle.dvd_commands.specs.Opening.{Opens}
use Rattle.dvd_words.specs.declared.settings.Settings.{Settings}
use Rattle.dvd_commands.specs.declared.refusal.Refusal.{Refusal}
use Rattle.dvd_commands.specs.declared.refusal.Refusal.TheVariants.{Setting, NoMemory}

-- its layout is valid, and its loop had this end
pub record HasLooped (settings : Settings) (old new : Streams) (end : LoopEnd) : Type 0 where
  pub valid : breaks settings ≡ None
  pub loop : HasEnded (Opens settings.form GoesOver settings) old new end

-- why it doesn't begin: its layout breaks a rule, or there is no memory for its buffers
abbrev pub IsRefusal : Settings → Refusal → Type 0
IsRefusal settings (Setting fault) = breaks settings ≡ Some fault
IsRefusal settings NoMemory = breaks settings ≡ None

-- what a command did: its loop had this end, or it didn't begin
abbrev pub IsPerformed : Settings → Streams → Streams → Result LoopEnd Refusal → Type 0
IsPerformed settings old new (Ok end) = HasLooped settings old new end
IsPerformed settings old new (Err refusal) = IsRefusal settings refusal

-- Likewise for a command by its arguments alone, without a header.
pub record HasGoneOver (settings : Settings) (old new : Streams) (end : LoopEnd) : Type 0 where
  pub valid : (meaning settings.command).breaks settings ≡ None
  pub loop : HasEnded (GoesOver settings) old new end

-- why it doesn't begin, by the rules of its command alone
abbrev pub IsRefusalOfWords : Settings → Refusal → Type 0
IsRefusalOfWords settings (Setting fault) = (meaning settings.command).breaks settings ≡ Some fault
IsRefusalOfWords settings NoMemory = (meaning settings.command).breaks settings ≡ None

-- what it did, by its arguments alone
abbrev pub IsPerformedByWords : Settings → Streams → Streams → Result LoopEnd Refusal → Type 0
IsPerformedByWords settings old new (Ok end) = HasGoneOver settings old new end
IsPerformedByWords settings old new (Err refusal) = IsRefusalOfWords settings refusal

-- what a command that writes no report does, by its streams: beside any report, which stays as it is
abbrev pub BesideAnyReport : (Streams → Streams → Result LoopEnd Refusal → Type 0) → Seen → Seen → Seen → Seen → Result LoopEnd Refusal → Type 0
BesideAnyReport Does source output new_source new_output answer =
    (report : Seen) → Does (streams source output report) (streams new_source new_output report) answer
