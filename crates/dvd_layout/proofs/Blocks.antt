-- The blocks of a list of zones: how many come before a zone, which one is at a place, and what holds of those of a
-- plan.
use Rattle.std.proofs.Common.{◌≡◌, ◌∙◌, sym, ap, subst, ℕ, ◌+◌, ◌-◌, ◌*◌, ◌^◌, ◌<◌, ◌≤◌, List, [], ◌∷◌, length, get_or, take, All, Some, slice_get, refl, arith, add-one, length-append}
use Rattle.std.specs.List.{AllByRecursion, flat_map}
use Rattle.std.proofs.Math.Seq.{take-suc}
use Rattle.std.proofs.lemmas.Grind.{flat_map-append}
use Rattle.std.proofs.lemmas.List.Concat.{get_or-flat_map, flat_map-cons}
use Rattle.std.proofs.lemmas.List.Elements.{All-nil, All-append, All-filter, All-from_recursion, All-get_or, recursion_from_All}
use Rattle.std.proofs.lemmas.List.Folds.{length-flat_map-take}
use Rattle.std.proofs.lemmas.List.FromFn.{length-map-range_with_len, get_or-map-range_with_len}
use Rattle.std.proofs.lemmas.Option.{slice_get_read, slice_get_within, get_or_from_slice_get}
use Rattle.dvd_layout.specs.declared.entry.BlockPlan.{BlockPlan}
use Rattle.dvd_layout.specs.declared.layout.Layout.{Layout}
use Rattle.dvd_layout.specs.declared.layout.Zones.{Zones}
use Rattle.dvd_layout.specs.declared.layout.Zones.TheVariants.{DataOnly, All as AllZones}
use Rattle.dvd_layout.specs.declared.zone.Zone.{Zone}
use Rattle.dvd_layout.specs.Plan.{entry_of, entries_of, is_data, plan_of, zone_table, zones_by}
use Rattle.dvd_layout.specs.Inner.Ranges.{IsInRange}

-- a zone has as many entries as blocks
pub length-entries_of : (zone : Zone) → length (entries_of zone) ≡ zone.blocks
length-entries_of zone = length-map-range_with_len (entry_of zone) 0 zone.blocks

-- the blocks of the zones before zone i
abbrev pub blocks_before : List Zone → ℕ → ℕ
blocks_before zones i = length (flat_map entries_of (take i zones))

-- before the next zone come the blocks of zone i too
pub blocks_before-suc : (zones : List Zone) (i : ℕ) (zone : Zone) → i < length zones
    → blocks_before zones (i + 1) ≡ blocks_before zones i + (get_or zones i zone).blocks
blocks_before-suc zones i zone within =
    rw (add-one, take-suc zones i zone within, flat_map-append entries_of, length-append)
    (let one : length (flat_map entries_of (get_or zones i zone ∷ [])) ≡ (get_or zones i zone).blocks =
    rw (flat_map-cons, length-append, length-entries_of) (omega arith) in
    omega arith)

-- the blocks up to zone i are no more than all
pub blocks_before-le : (zones : List Zone) (i : ℕ) (zone : Zone) → i < length zones
    → blocks_before zones i + (get_or zones i zone).blocks ≤ length (flat_map entries_of zones)
blocks_before-le zones i zone within =
    let bound = length-flat_map-take entries_of zones i zone within in
    let one = length-entries_of (get_or zones i zone) in
    omega arith

-- block b of zone i comes after the blocks of the zones before it
pub block-at : (zones : List Zone) (i b k : ℕ) (zone : Zone) → i < length zones → b < (get_or zones i zone).blocks
    → blocks_before zones i + b ≡ k → slice_get (flat_map entries_of zones) k ≡ Some (entry_of (get_or zones i zone) b)
block-at zones i b k zone within inside place =
    let found = entry_of (get_or zones i zone) b in
    let inside_entries : b < length (entries_of (get_or zones i zone)) = rw length-entries_of inside in
    let far = blocks_before-le zones i zone within in
    let inside_all : k < length (flat_map entries_of zones) = omega arith in
    slice_get_read (flat_map entries_of zones) (length (flat_map entries_of zones)) k found refl inside_all
    (sym (ap (λ n. get_or (flat_map entries_of zones) n found) (sym place)
    ∙ get_or-flat_map entries_of zones i b zone found within inside_entries
    ∙ get_or-map-range_with_len (entry_of (get_or zones i zone)) 0 (get_or zones i zone).blocks b b found inside (omega arith)))

-- past zone i the way to block k is shorter by that zone's blocks
pub zone-passed : (zones : List Zone) (i left k : ℕ) (zone : Zone) → i < length zones → (get_or zones i zone).blocks ≤ left
    → blocks_before zones i + left ≡ k → blocks_before zones (i + 1) + (left - (get_or zones i zone).blocks) ≡ k
zone-passed zones i left k zone within passed way = rw (blocks_before-suc zones i zone within) (omega arith)

-- a count goes on by the blocks of zone i
pub zone-counted : (zones : List Zone) (i count : ℕ) (zone : Zone) → i < length zones
    → count ≡ blocks_before zones i → count + (get_or zones i zone).blocks ≡ blocks_before zones (i + 1)
zone-counted zones i count zone within counted = rw (blocks_before-suc zones i zone within) (omega arith)

-- a zone in range adds at most 2^24 blocks to a count
pub zone-few : (zone : Zone) (i count : ℕ) → IsInRange zone → count ≤ 2 ^ 24 * i → count + zone.blocks ≤ 2 ^ 24 * (i + 1)
zone-few zone i count range few = let short = range.numbers in omega arith

-- what holds of each block of a zone, by its number in the zone, holds of all its entries
pub entries_of-each : (Q : BlockPlan → Type 0) (zone : Zone) → ((b : ℕ) → b < zone.blocks → Q (entry_of zone b))
    → All Q (entries_of zone)
entries_of-each Q zone each b entry within =
    let inside : b < zone.blocks = subst (λ n. b < n) (length-entries_of zone) within in
    rw (get_or-map-range_with_len (entry_of zone) 0 zone.blocks b b entry inside (omega arith)) (each b inside)

-- what holds of each zone of a disk holds of each zone of a stream
pub zone_table-each : (P : Zone → Type 0) (layout : Layout) (zones : Zones) → AllByRecursion P (zones_by layout layout.shape)
    → All P (zone_table layout zones)
zone_table-each P layout AllZones held = All-from_recursion P (zones_by layout layout.shape) held
zone_table-each P layout DataOnly held =
    All-filter (λ zone. is_data zone.area) P (zones_by layout layout.shape)
    (All-from_recursion P (zones_by layout layout.shape) held)

module _ (P : Zone → Type 0) (Q : BlockPlan → Type 0) (each : (zone : Zone) → P zone → All Q (entries_of zone)) where
  -- what holds of the blocks of each zone of a kind holds of those of all zones of that kind
  pub zones-each : (zones : List Zone) → AllByRecursion P zones → All Q (flat_map entries_of zones)
  zones-each [] held = All-nil Q
  zones-each (zone ∷ zones) held =
      All-append Q (entries_of zone) (flat_map entries_of zones) (each zone held.0) (zones-each zones held.1)

  -- so it holds of the blocks of a plan, where all zones of the disk are of that kind
  pub plan_of-each : (layout : Layout) (zones : Zones) → AllByRecursion P (zones_by layout layout.shape)
      → All Q (plan_of layout zones)
  unfolding plan_of
  plan_of-each layout zones held =
      zones-each (zone_table layout zones) (recursion_from_All P (zone_table layout zones) (zone_table-each P layout zones held))

-- what holds of all blocks of a plan holds of the one at a place
pub plan_of-at_place : (Q : BlockPlan → Type 0) (layout : Layout) (zones : Zones) (k : ℕ) (entry : BlockPlan)
    → All Q (plan_of layout zones) → slice_get (plan_of layout zones) k ≡ Some entry → Q entry
plan_of-at_place Q layout zones k entry all is_there =
    let plan = plan_of layout zones in
    subst Q (get_or_from_slice_get plan k entry entry is_there)
    (All-get_or Q plan k entry (slice_get_within plan k entry is_there) all)
