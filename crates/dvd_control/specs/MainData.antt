-- Main Data of the blocks that hold no image (ECMA-267, Lead-in Zone, Middle Zone, Lead-out Zone).
use Rattle.std.specs.Prelude.{ℕ, ◌==◌, if◌then◌else◌, List, replicate}
use Rattle.dvd_layout.specs.declared.entry.BlockPlan.{BlockPlan}
use Rattle.dvd_layout.specs.declared.entry.Content.{Content}
use Rattle.dvd_layout.specs.declared.entry.Content.TheVariants.{Zero, Reference, Control, Image}
use Rattle.dvd_layout.specs.declared.layout.Layout.{Layout}
use Rattle.dvd_control.specs.Format.{fields_for, format_bytes}

-- The Main Data of frame f of an entry that isn't image: zeros; the reference code AC; or in control data the physical
-- format in frame 0 of each block and zeros in the others.
unfoldable pub main_bytes : Layout → BlockPlan → ℕ → List ℕ
main_bytes layout entry f = main_by entry.content
  where
    main_by : Content → List ℕ
    main_by Zero = replicate 2048 0
    main_by Reference = replicate 2048 0xAC
    main_by Control = if f == 0 then format_bytes (fields_for layout entry.layer) else replicate 2048 0
    main_by (Image sector) = replicate 2048 0
