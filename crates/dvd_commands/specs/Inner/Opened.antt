-- What the private calls of the opening promise.
use Rattle.std.specs.Prelude.{◌≡◌, ◌⊎◌, ℕ, List, length, Option, Some, None}
use Rattle.dvd_ports.specs.Bytes.{Consumes}
use Rattle.dvd_capture.specs.Captured.{HasSize}
use Rattle.dvd_capture.specs.declared.form.Form.TheVariants.{Listed}
use Rattle.dvd_layout.specs.Lengths.{initial_fault}
use Rattle.dvd_layout.specs.declared.layout.Layout.{Layout}
use Rattle.dvd_loop.specs.Machine.{Outcome, ended}
use Rattle.dvd_loop.specs.Streams.{AreKnown}
use Rattle.dvd_loop.specs.declared.ends.LoopEnd.{LoopEnd}
use Rattle.dvd_ports.specs.Seen.{Seen}
use Rattle.dvd_commands.specs.Opening.{ComesAfterHeader, IsHeaderOf}
use Rattle.dvd_words.specs.Settings.{IsLayoutOf, broken_rule}
use Rattle.dvd_words.specs.declared.settings.Settings.{Settings}

-- the layout that the arguments ask for, or none where a listed capture states its own
abbrev pub IsWorded : Settings → Option Layout → Type 0
IsWorded settings (Some layout) = HasSize settings.form × IsLayoutOf settings layout × (broken_rule settings ≡ None)
IsWorded settings None = settings.form ≡ Listed

-- likewise for the length of the Initial Zone alone
abbrev pub IsWordedInitial : Settings → Option ℕ → Type 0
IsWordedInitial settings (Some initial) = HasSize settings.form × (initial ≡ settings.initial) × (initial_fault settings.initial ≡ None)
IsWordedInitial settings None = settings.form ≡ Listed

-- The header of a listed capture was read: it states these settings, which have this layout.
pub record HasOpened (settings : Settings) (old new : Seen) (stated : Settings) (layout : Layout) : Type 0 where
  pub own : List ℕ
  pub reads : Consumes old.bytes new.bytes own
  pub whole : length own ≡ 32
  pub header : IsHeaderOf settings stated own
  pub valid : broken_rule stated ≡ None
  pub lengths : IsLayoutOf stated layout

-- A command may go over its blocks by these settings and their layout: they are those of its arguments, and nothing is
-- read yet; or those that the header of a listed capture states.
abbrev pub HasBegun : Settings → Seen → Seen → Settings → Layout → Type 0
HasBegun settings old new stated layout =
    (HasSize settings.form × (broken_rule settings ≡ None) × (stated ≡ settings) × (new ≡ old))
    ⊎ ((settings.form ≡ Listed) × HasOpened settings old new stated layout)

-- no loop follows the header
abbrev pub NoLoop : Settings → List ℕ → Outcome → Type 0
NoLoop stated left after = ⊥

-- The run ends in its header.
pub record EndsInHeader (settings : Settings) (old new : Seen) (end : LoopEnd) : Type 0 where
  pub own : List ℕ
  pub left : List ℕ
  pub reads : Consumes old.bytes new.bytes own
  pub known : AreKnown new.bytes left
  pub ends : ComesAfterHeader NoLoop settings own left (ended end)
