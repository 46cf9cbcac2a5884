-- The line of a layout that breaks a rule. It ends with one line feed.
use Rattle.std.specs.Prelude.{List, ℕ, ◌++◌, codes, decimal}
use Rattle.dvd_layout.specs.declared.fault.LayoutFault.{LayoutFault}
use Rattle.dvd_layout.specs.declared.fault.LayoutFault.TheVariants.{EmptyLayer, OddLayer, SecondLayer, LayerLonger, InitialTooLong, TailTooLong, LayerTooLong}

-- the text of a rule that a layout breaks
abbrev pub fault_text : LayoutFault → List ℕ
fault_text (EmptyLayer layer) = codes "empty layer " ++ decimal layer
fault_text (OddLayer sectors) = codes "odd layer " ++ decimal sectors
fault_text (SecondLayer sectors) = codes "second layer " ++ decimal sectors
fault_text (LayerLonger sectors) = codes "layer longer " ++ decimal sectors
fault_text (InitialTooLong blocks) = codes "initial too long " ++ decimal blocks
fault_text (TailTooLong blocks) = codes "tail too long " ++ decimal blocks
fault_text (LayerTooLong layer end) = codes "layer " ++ decimal layer ++ codes " too long " ++ decimal end

-- the line of a layout that breaks a rule
abbrev pub setting_line : LayoutFault → List ℕ
setting_line fault = codes "setting: " ++ fault_text fault ++ codes "\n"
