-- A plan has fewer than 2^32 blocks.
use Rattle.std.proofs.Common.{suc, ◌*◌, ◌^◌, ◌<◌, ◌≤◌, List, [], ◌∷◌, length, All, filter, arith, length-append}
use Rattle.std.specs.List.{flat_map}
use Rattle.std.proofs.lemmas.List.Concat.{flat_map-cons}
use Rattle.dvd_layout.specs.Plan.{entries_of, zones_by, zone_table, is_data, plan_of}
use Rattle.dvd_layout.specs.Inner.Ranges.{IsInRange}
use Rattle.dvd_layout.specs.declared.layout.Layout.{Layout}
use Rattle.dvd_layout.specs.declared.layout.Shape.{Shape}
use Rattle.dvd_layout.specs.declared.layout.Shape.TheVariants.{Single, Parallel, Opposite}
use Rattle.dvd_layout.specs.declared.layout.Zones.{Zones}
use Rattle.dvd_layout.specs.declared.layout.Zones.TheVariants.{DataOnly, All as AllZones}
use Rattle.dvd_layout.specs.declared.zone.Zone.{Zone}
use Rattle.dvd_layout.proofs.Blocks.{length-entries_of}
use Rattle.dvd_layout.proofs.Ranges.{zone_table-in_range}

-- zones within their range have at most 2^20 blocks each
blocks-few : (zones : List Zone) → All IsInRange zones → length (flat_map entries_of zones) ≤ 2 ^ 20 * length zones
blocks-few [] all = omega arith
blocks-few (zone ∷ zones) all =
    let here = all 0 zone (omega arith) in
    let rest = blocks-few zones (λ i d lt. all (suc i) d (omega arith)) in
    rw (flat_map-cons, length-append, length-entries_of) (omega (arith, here.numbers))

-- a disk has at most fourteen zones
zones-few : (layout : Layout) (shape : Shape) → length (zones_by layout shape) ≤ 14
zones-few layout Single = omega arith
zones-few layout Parallel = omega arith
zones-few layout Opposite = omega arith

-- and no more of them are Data Zones
data-few : (layout : Layout) (shape : Shape) → length (filter (λ zone. is_data zone.area) (zones_by layout shape)) ≤ 14
data-few layout Single = omega arith
data-few layout Parallel = omega arith
data-few layout Opposite = omega arith

-- so a stream has at most fourteen
table-few : (layout : Layout) (zones : Zones) → length (zone_table layout zones) ≤ 14
table-few layout AllZones = zones-few layout layout.shape
table-few layout DataOnly = data-few layout layout.shape

-- and its plan fewer than 2^32 blocks
pub plan-few : (layout : Layout) (zones : Zones) → length (plan_of layout zones) < 2 ^ 32
unfolding plan_of
plan-few layout zones = omega (arith, blocks-few (zone_table layout zones) (zone_table-in_range layout zones), table-few layout zones)
