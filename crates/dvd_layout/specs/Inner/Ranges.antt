-- Ours: the numbers of zones that fit their types.
use Rattle.std.specs.Prelude.{◌+◌, ◌*◌, ◌^◌, ◌<◌, ◌≤◌}
use Rattle.dvd_layout.specs.Content.{image_from}
use Rattle.dvd_layout.specs.declared.zone.Zone.{Zone}

-- the numbers of a zone and of its image sectors have 24 bits
pub record IsInRange (zone : Zone) : Type 0 where
  pub numbers : zone.first + 16 * zone.blocks ≤ 2 ^ 24
  pub image : image_from zone.content + 16 * zone.blocks ≤ 2 ^ 24
  pub layers : zone.layer < 2
