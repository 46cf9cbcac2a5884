-- Ours: the header that a listed capture opens with, and the settings that it states.
use Rattle.std.specs.Prelude.{◌≡◌, ◌⊎◌, ◌<◌, ℕ, zero, suc, List, [], ◌++◌, length, Some, None}
use Rattle.dvd_capture.specs.Header.{IsFirstWrongByte, header_bytes}
use Rattle.dvd_capture.specs.Laws.{FitsHeader}
use Rattle.dvd_capture.specs.declared.form.Form.{Form}
use Rattle.dvd_capture.specs.declared.form.Form.TheVariants.{Plain, Marked, Listed}
use Rattle.dvd_capture.specs.declared.header.Header.{Header}
use Rattle.dvd_layout.specs.declared.fault.LayoutFault.{LayoutFault}
use Rattle.dvd_layout.specs.declared.fault.LayoutFault.TheVariants.{EmptyLayer, OddLayer, SecondLayer, LayerLonger, InitialTooLong, TailTooLong, LayerTooLong}
use Rattle.dvd_layout.specs.declared.layout.Shape.{Shape}
use Rattle.dvd_layout.specs.declared.layout.Shape.TheVariants.{Single, Parallel, Opposite}
use Rattle.dvd_layout.specs.declared.layout.Zones.{Zones}
use Rattle.dvd_layout.specs.declared.layout.Zones.TheVariants.{DataOnly, All}
use Rattle.dvd_loop.specs.Machine.{Outcome, ended, taking}
use Rattle.dvd_loop.specs.declared.ends.LoopEnd.TheVariants.{BadHeader, ReadFault, ShortHeader}
use Rattle.dvd_words.specs.Settings.{broken_rule}
use Rattle.dvd_words.specs.declared.settings.Settings.{Settings}

-- the numbers of the shapes in a header
abbrev pub shape_number : Shape → ℕ
shape_number Single = 0
shape_number Parallel = 1
shape_number Opposite = 2

-- the numbers of the zones in it
abbrev pub zones_number : Zones → ℕ
zones_number DataOnly = 0
zones_number All = 1

-- these settings have the layout and the zones that a header states, and all else of the settings of the arguments
pub record IsStated (settings : Settings) (header : Header) (stated : Settings) : Type 0 where
  pub shape : shape_number stated.shape ≡ header.shape
  pub zones : zones_number stated.zones ≡ header.zones
  pub all : stated ≡ record settings {
    shape = stated.shape;
    zones = stated.zones;
    sectors = header.sectors0;
    sectors1 = header.sectors1;
    initial = header.initial;
    tail = header.tail;
  }

-- the first byte of the field that has the sectors of a layer
abbrev pub layer_byte : ℕ → ℕ
layer_byte zero = 12
layer_byte (suc layer) = 16

-- the first byte of the field that a broken rule of layouts names
abbrev pub fault_byte : LayoutFault → ℕ
fault_byte (EmptyLayer layer) = layer_byte layer
fault_byte (OddLayer sectors) = 12
fault_byte (SecondLayer sectors) = 16
fault_byte (LayerLonger sectors) = 16
fault_byte (InitialTooLong blocks) = 20
fault_byte (TailTooLong blocks) = 24
fault_byte (LayerTooLong layer end) = layer_byte layer

-- These 32 bytes are a header that states these settings.
pub record IsHeaderOf (settings stated : Settings) (own : List ℕ) : Type 0 where
  pub header : Header
  pub numbers : FitsHeader header
  pub bytes : own ≡ header_bytes header
  pub states : IsStated settings header stated

-- They break a rule at this offset: a byte isn't allowed there, or the layout that they state breaks a rule.
abbrev pub BreaksHeader : Settings → List ℕ → ℕ → Type 0
BreaksHeader settings own at =
    IsFirstWrongByte own at
    ⊎ ((stated : Settings) × (fault : LayoutFault) × IsHeaderOf settings stated own × (broken_rule stated ≡ Some fault) × (at ≡ fault_byte fault))

-- What comes after the bytes that were read as the header: the input ended within it, or a read failed there; or it is
-- a header that breaks a rule; or it states settings, and the loop runs by these.
abbrev pub ComesAfterHeader : (Settings → List ℕ → Outcome → Type 0) → Settings → List ℕ → List ℕ → Outcome → Type 0
ComesAfterHeader Loops settings own left after =
    ((length own < 32) × (((left ≡ []) × (after ≡ ended (ShortHeader (length own)))) ⊎ (after ≡ ended ReadFault)))
    ⊎ ((length own ≡ 32) × (((at : ℕ) × BreaksHeader settings own at × (after ≡ ended (BadHeader at)))
    ⊎ ((stated : Settings) × IsHeaderOf settings stated own × (broken_rule stated ≡ None) × Loops stated left after)))

-- A run over bytes that begin with a header.
pub record IsOpened (Loops : Settings → List ℕ → Outcome → Type 0) (settings : Settings) (bytes : List ℕ) (outcome : Outcome) : Type 0 where
  pub own : List ℕ
  pub left : List ℕ
  pub prefix : bytes ≡ own ++ left
  pub after : Outcome
  pub comes : ComesAfterHeader Loops settings own left after
  pub takes : outcome ≡ taking own after

-- the captures of this form open with a header
abbrev pub Opens : Form → (Settings → List ℕ → Outcome → Type 0) → Settings → List ℕ → Outcome → Type 0
Opens Listed Loops = IsOpened Loops
Opens Plain Loops = Loops
Opens Marked Loops = Loops

-- A promise about a loop over bytes holds for a listed capture by the settings that its header states, and for what
-- comes after the header: the bytes there, and what was done over them.
abbrev pub AfterHeader : Form → (Settings → List ℕ → Outcome → Type 0) → Settings → List ℕ → Outcome → Type 0
AfterHeader Plain Keeps settings bytes outcome = Keeps settings bytes outcome
AfterHeader Marked Keeps settings bytes outcome = Keeps settings bytes outcome
AfterHeader Listed Keeps settings bytes outcome =
    (own left : List ℕ) (stated : Settings) (after : Outcome) → bytes ≡ own ++ left → IsHeaderOf settings stated own → broken_rule stated ≡ None
    → outcome ≡ taking own after → Keeps stated left after
