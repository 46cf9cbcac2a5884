-- The layout that settings ask for.
use Rattle.std.specs.Prelude.{◌≡◌, Option}
use Rattle.dvd_layout.specs.Lengths.{first_fault}
use Rattle.dvd_layout.specs.declared.fault.LayoutFault.{LayoutFault}
use Rattle.dvd_layout.specs.declared.layout.Layout.{Layout}
use Rattle.dvd_words.specs.declared.settings.Settings.{Settings}

-- the layout has the lengths of the settings
pub record IsLayoutOf (settings : Settings) (layout : Layout) : Type 0 where
  pub shape : layout.shape ≡ settings.shape
  pub sectors0 : layout.sectors0 ≡ settings.sectors
  pub sectors1 : layout.sectors1 ≡ settings.sectors1
  pub initial : layout.initial ≡ settings.initial
  pub tail : layout.tail ≡ settings.tail

-- the first rule of layouts that these lengths break
abbrev pub broken_rule : Settings → Option LayoutFault
broken_rule settings = first_fault settings.shape settings.sectors settings.sectors1 settings.initial settings.tail
