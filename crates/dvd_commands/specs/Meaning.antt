-- What a command means to a run of the program.
use Rattle.std.specs.Prelude.{⊤, ℕ, List, None, Option}
use Rattle.dvd_layout.specs.declared.fault.LayoutFault.{LayoutFault}
use Rattle.dvd_layout.specs.declared.layout.Layout.{Layout}
use Rattle.dvd_loop.specs.Machine.{IsOutcome, Outcome, Units}
use Rattle.dvd_words.specs.Settings.{IsLayoutOf, broken_rule}
use Rattle.dvd_words.specs.declared.settings.Settings.{Settings}

-- The first rule of layouts that settings break. What the units depend on in addition to the settings, such as a
-- layout, and which of these the settings have. The units.
pub record Meaning : Type 1 where
  pub breaks : Settings → Option LayoutFault
  pub Subject : Type 0
  pub IsSubject : Settings → Subject → Type 0
  pub units : Settings → Subject → Units

-- the meaning of a command whose units depend on its settings alone, and which has no layout
abbrev pub by_settings : (Settings → Units) → Meaning
by_settings units = record {
  breaks = λ settings. None;
  Subject = ⊤;
  IsSubject = λ settings subject. ⊤;
  units = λ settings subject. units settings;
}

-- the meaning of a command whose units depend on the layout of its settings, which has to break no rule
abbrev pub by_layout : (Settings → Layout → Units) → Meaning
by_layout units = record { breaks = broken_rule; Subject = Layout; IsSubject = IsLayoutOf; units = units }

-- a loop over the units that these settings have by a meaning
abbrev pub GoesBy : Meaning → Settings → List ℕ → Outcome → Type 0
GoesBy m settings bytes outcome = (subject : m.Subject) × m.IsSubject settings subject × IsOutcome (m.units settings subject) bytes outcome
