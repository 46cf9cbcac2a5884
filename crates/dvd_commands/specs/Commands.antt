-- The commands of the program, each by its meaning, and what settings ask for.
use Rattle.std.specs.Prelude.{ℕ, List, Option, None}
use Rattle.dvd_capture.specs.declared.form.Form.{Form}
use Rattle.dvd_capture.specs.declared.form.Form.TheVariants.{Listed}
use Rattle.dvd_layout.specs.declared.fault.LayoutFault.{LayoutFault}
use Rattle.dvd_loop.specs.Machine.{Outcome}
use Rattle.dvd_commands.specs.Meaning.{GoesBy, Meaning}
use Rattle.dvd_commands.specs.Exercise.{exercise_meaning}
use Rattle.dvd_commands.specs.Frames.{frames_meaning}
use Rattle.dvd_commands.specs.Info.{info_meaning}
use Rattle.dvd_commands.specs.Master.{master_meaning}
use Rattle.dvd_commands.specs.Recover.{recover_meaning}
use Rattle.dvd_commands.specs.Survey.{survey_meaning}
use Rattle.dvd_commands.specs.CdMake.{cdmake_meaning}
use Rattle.dvd_commands.specs.CdRead.{cdread_meaning}
use Rattle.dvd_commands.specs.Merge.{merge_meaning}
use Rattle.dvd_commands.specs.Deep.{deep_meaning}
use Rattle.dvd_commands.specs.Assemble.{assemble_meaning}
use Rattle.dvd_commands.specs.Convert.{convert_meaning}
use Rattle.dvd_words.specs.declared.table.Command.{Command}
use Rattle.dvd_words.specs.declared.table.Command.TheVariants as command
use Rattle.dvd_words.specs.declared.settings.Settings.{Settings}

-- what each command does
abbrev pub meaning : Command → Meaning
meaning command.Frames = frames_meaning
meaning command.Master = master_meaning
meaning command.Recover = recover_meaning
meaning command.Info = info_meaning
meaning command.Survey = survey_meaning
meaning command.Exercise = exercise_meaning
meaning command.CdMake = cdmake_meaning
meaning command.CdRead = cdread_meaning
meaning command.Merge = merge_meaning
meaning command.Deep = deep_meaning
meaning command.Assemble = assemble_meaning
meaning command.Convert = convert_meaning

-- The first rule of layouts that the settings break. A listed capture states its own layout, in a header.
abbrev pub breaks_in : Form → Settings → Option LayoutFault
breaks_in Listed settings = None
breaks_in form settings = (meaning settings.command).breaks settings

-- the first rule that the settings break, by their form
abbrev pub breaks : Settings → Option LayoutFault
breaks settings = breaks_in settings.form settings

-- a loop over the units of the command that the settings name
abbrev pub GoesOver : Settings → List ℕ → Outcome → Type 0
GoesOver settings = GoesBy (meaning settings.command) settings
