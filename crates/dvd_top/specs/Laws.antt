-- What holds of every run of a command.
use Rattle.std.specs.Prelude.{◌≡◌, ◌↔◌, ℕ, ◌*◌, ◌<◌, List, [], length, All, None}
use Rattle.dvd_capture.specs.Captured.{HasSize, record_size}
use Rattle.dvd_capture.specs.declared.form.Form.{Form}
use Rattle.dvd_capture.specs.declared.form.Form.TheVariants.{Plain, Listed}
use Rattle.dvd_layout.specs.Place.{total_sectors}
use Rattle.dvd_layout.specs.Plan.{plan_of}
use Rattle.dvd_layout.specs.declared.layout.Layout.{Layout}
use Rattle.dvd_layout.specs.declared.layout.Zones.{Zones}
use Rattle.dvd_loop.specs.Laws.{IsFaultless, IsNotBadMarks, IsOver}
use Rattle.dvd_loop.specs.Machine.{IsOutcome, Outcome}
use Rattle.dvd_loop.specs.Streams.{Streams}
use Rattle.dvd_loop.specs.declared.ends.LoopEnd.TheVariants.{Done}
use Rattle.dvd_commands.specs.Bound.{KeepsBound, KeepsGoodFrames, Rescues}
use Rattle.dvd_commands.specs.CdMake.{HasAddresses}
use Rattle.dvd_commands.specs.Master.{master_units}
use Rattle.dvd_commands.specs.Recover.{recover_units}
use Rattle.dvd_commands.specs.Commands.{GoesOver, breaks}
use Rattle.dvd_top.specs.Headline.{IsLoop, IsRun}
use Rattle.dvd_commands.specs.Opening.{AfterHeader}
use Rattle.dvd_top.specs.Promises.{IsImageOf, IsStreamOf}
use Rattle.dvd_top.specs.declared.status.Status.{Status}
use Rattle.dvd_words.specs.declared.table.Command.TheVariants.{CdMake, Convert, Recover}
use Rattle.dvd_words.specs.declared.settings.Settings.{Settings}

-- What is done for an input is determined: the same settings and bytes have one outcome, where no fault ends it. But
-- how much is read of a block that breaks a rule is left open.
abbrev pub WhatIsDoneIsDetermined : Type 0
WhatIsDoneIsDetermined =
    (settings : Settings) (bytes : List ℕ) (a b : Outcome) → IsLoop settings bytes a → IsLoop settings bytes b → IsFaultless a.end → IsFaultless b.end
    → (a.out ≡ b.out) × (a.lines ≡ b.lines) × (a.end ≡ b.end) × (IsNotBadMarks a.end → a.taken ≡ b.taken)

-- The number of workers changes nothing: settings that differ in that number alone have the same loops and the same
-- runs, of a listed capture too.
abbrev pub WorkersChangeNothing : Type 0
WorkersChangeNothing =
    (settings : Settings) (workers : ℕ) (bytes : List ℕ) (outcome : Outcome)
    → (IsLoop settings bytes outcome ↔ IsLoop (record settings { workers = workers }) bytes outcome)
    × ((old new : Streams) (result : Status) → IsRun settings old new result ↔ IsRun (record settings { workers = workers }) old new result)

-- numbers that are bytes
abbrev pub AreBytes : List ℕ → Type 0
AreBytes numbers = All (λ byte. byte < 256) numbers

-- Something is done for every input: there is an outcome that no fault ends. For this the settings may break no rule of
-- layouts. For `cdmake` each sector needs an address, and the form has to be plain.
abbrev pub SomethingIsDone : Type 0
SomethingIsDone =
    (settings : Settings) (bytes : List ℕ) → length settings.cpr ≡ 6 → AreBytes settings.cpr → AreBytes bytes → breaks settings ≡ None
    → (settings.command ≡ CdMake → HasAddresses settings × (settings.form ≡ Plain))
    → (outcome : Outcome) × IsLoop settings bytes outcome × IsFaultless outcome.end

-- A loop of recovery, by two passes or by rounds, keeps the bound, whatever ended it.
abbrev pub BoundIsKept : Type 0
BoundIsKept =
    (settings : Settings) (bytes : List ℕ) (outcome : Outcome) → Rescues settings.command → IsLoop settings bytes outcome
    → AfterHeader settings.form KeepsBound settings bytes outcome

-- Likewise over the blocks alone, after the header of a listed capture.
abbrev pub LoopsKeepTheBound : Type 0
LoopsKeepTheBound =
    (settings : Settings) (bytes : List ℕ) (outcome : Outcome) → Rescues settings.command → GoesOver settings bytes outcome → KeepsBound settings bytes outcome

-- A loop of `recover` keeps the good frames of the blocks that two passes refuse, whatever ended it.
abbrev pub GoodFramesAreKept : Type 0
GoodFramesAreKept =
    (settings : Settings) (bytes : List ℕ) (outcome : Outcome) → settings.command ≡ Recover → IsLoop settings bytes outcome
    → AfterHeader settings.form KeepsGoodFrames settings bytes outcome

-- A loop of `master` over a whole image that no fault ended writes the stream of the image, and ends as Done.
abbrev pub ImageIsMastered : Type 0
ImageIsMastered =
    (layout : Layout) (zones : Zones) (cpr image : List ℕ) (a : Outcome) → length image ≡ 2048 * total_sectors layout
    → IsOutcome (master_units layout zones cpr) image a → IsFaultless a.end
    → (stream : List ℕ) × IsStreamOf layout zones cpr image stream × (a ≡ record { taken = image; out = stream; lines = []; end = Done })

-- What recovery does for the stream of a whole image: the image is written, no line names a block, and the end is Done.
abbrev pub MasteredStreamIsRecovered : Type 0
MasteredStreamIsRecovered =
    (layout : Layout) (zones : Zones) (cpr image stream : List ℕ) (recovered : Outcome) → length cpr ≡ 6 → length image ≡ 2048 * total_sectors layout
    → IsStreamOf layout zones cpr image stream → IsOutcome (recover_units layout zones Plain) stream recovered → IsFaultless recovered.end
    → recovered ≡ record { taken = stream; out = image; lines = []; end = Done }

-- A loop of `recover` over a capture of the right length that no fault ended writes its image sectors. It ends as Done
-- or Damaged.
abbrev pub CaptureIsRecovered : Type 0
CaptureIsRecovered =
    (layout : Layout) (zones : Zones) (form : Form) (capture : List ℕ) (a : Outcome) → HasSize form → length capture ≡ length (plan_of layout zones) * (208 * record_size form)
    → IsOutcome (recover_units layout zones form) capture a → IsFaultless a.end
    → IsImageOf layout zones form capture a.out × (a.taken ≡ capture) × IsOver a.end

-- What `convert` wrote of an input is a listed capture of the same blocks. `recover` of it, whatever its other
-- settings, has the output, the report and the end of `recover` over that input, where no fault ends it.
abbrev pub ConvertedIsRead : Type 0
ConvertedIsRead =
    (settings words : Settings) (bytes : List ℕ) (converted read : Outcome)
    → settings.command ≡ Convert → words.command ≡ Recover → words.form ≡ Listed → HasSize settings.form → breaks settings ≡ None
    → IsLoop settings bytes converted → converted.end ≡ Done
    → IsLoop (record settings { command = Recover }) bytes read → IsFaultless read.end
    → (again : Outcome) × IsLoop words converted.out again × (again.out ≡ read.out) × (again.lines ≡ read.lines) × (again.end ≡ read.end)
