-- What the blocks of a zone hold.
use Rattle.std.specs.Prelude.{ℕ, ◌+◌, ◌*◌}
use Rattle.dvd_layout.specs.declared.entry.Content.{Content}
use Rattle.dvd_layout.specs.declared.entry.Content.TheVariants.{Zero, Reference, Control, Image}

-- a content that is image sectors
abbrev pub IsImage : Content → Type 0
IsImage (Image sector) = Unit {0}
IsImage Zero = ⊥
IsImage Reference = ⊥
IsImage Control = ⊥

-- the first image sector, or 0 where there is none
abbrev pub image_from : Content → ℕ
image_from (Image sector) = sector
image_from Zero = 0
image_from Reference = 0
image_from Control = 0

-- what block b of a zone of this content holds
abbrev pub content_at : Content → ℕ → Content
content_at (Image sector) b = Image (sector + 16 * b)
content_at Zero b = Zero
content_at Reference b = Reference
content_at Control b = Control
