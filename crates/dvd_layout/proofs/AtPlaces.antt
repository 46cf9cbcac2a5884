-- The image sectors of each block of a plan are at the block's sector numbers.
use Rattle.std.proofs.Common.{◌≡◌, ◌⊎◌, inl, inr, ap, subst, ℕ, ◌+◌, ◌-◌, ◌*◌, ◌%◌, ◌<◌, ◌≤◌, true, false, nat_lt, refl, arith}
use Rattle.std.proofs.Common.{All, Some, slice_get}
use Rattle.std.specs.List.{AllByRecursion}
use Rattle.std.proofs.lemmas.Bool.Decides.{nat_tests}
use Rattle.dvd_layout.specs.declared.entry.BlockPlan.{BlockPlan}
use Rattle.dvd_layout.specs.declared.entry.Content.{Content}
use Rattle.dvd_layout.specs.declared.entry.Content.TheVariants.{Zero, Reference, Control, Image}
use Rattle.dvd_layout.specs.declared.layout.Layout.{Layout}
use Rattle.dvd_layout.specs.declared.layout.Shape.{Shape}
use Rattle.dvd_layout.specs.declared.layout.Shape.TheVariants.{Single, Parallel, Opposite}
use Rattle.dvd_layout.specs.declared.layout.Zones.{Zones}
use Rattle.dvd_layout.specs.declared.zone.Zone.{Zone}
use Rattle.dvd_layout.specs.Content.{content_at}
use Rattle.dvd_layout.specs.Lengths.{blocks_of, has_two_layers}
use Rattle.dvd_layout.specs.Place.{place_of, total_sectors}
use Rattle.dvd_layout.specs.Plan.{entries_of, plan_of, second_first, zones_by}
use Rattle.dvd_layout.proofs.Blocks.{entries_of-each, plan_of-at_place, plan_of-each}

-- a sector below those of layer 0 is on that layer
on_layer_0 : (layout : Layout) (sector number : ℕ) → sector < layout.sectors0 → number ≡ 0x30000 + sector → place_of layout sector ≡ (0, number)
on_layer_0 layout sector number within is =
    let test : nat_lt sector layout.sectors0 ≡ true = grind (arith, nat_tests) in
    rw (is, test) refl

-- any other is on layer 1, as far after its first as it is after those of layer 0
on_layer_1 : (layout : Layout) (sector number : ℕ) → layout.sectors0 ≤ sector → number ≡ second_first layout + (sector - layout.sectors0)
    → place_of layout sector ≡ (1, number)
on_layer_1 layout sector number past is =
    let test : nat_lt sector layout.sectors0 ≡ false = grind (arith, nat_tests) in
    rw (is, test) refl

-- the image sectors from this content's first on are at so many sector numbers from this one on
abbrev IsAt : Layout → Content → ℕ → ℕ → ℕ → Type 0
IsAt layout (Image sector) first count layer = (n : ℕ) → n < count → sector + n < total_sectors layout → place_of layout (sector + n) ≡ (layer, first + n)
IsAt layout Zero first count layer = Unit {0}
IsAt layout Reference first count layer = Unit {0}
IsAt layout Control first count layer = Unit {0}

-- the image sectors of a zone are at its sector numbers
abbrev IsZoneAt : Layout → Zone → Type 0
IsZoneAt layout zone = IsAt layout zone.content zone.first (16 * zone.blocks) zone.layer

-- the image sectors of a block are at its sixteen sector numbers
abbrev IsBlockAt : Layout → BlockPlan → Type 0
IsBlockAt layout entry = IsAt layout entry.content entry.first 16 entry.layer

-- the Data Zone of layer 0, which alone holds image or has full blocks only
first-at : (layout : Layout) → (layout.sectors1 ≡ 0) ⊎ (layout.sectors0 % 16 ≡ 0) → IsAt layout (Image 0) 0x30000 (16 * blocks_of layout.sectors0) 0
first-at layout (inl alone) n within held = on_layer_0 layout (0 + n) (0x30000 + n) (omega arith) (omega arith)
first-at layout (inr whole) n within held = on_layer_0 layout (0 + n) (0x30000 + n) (omega arith) (omega arith)

-- the Data Zone of layer 1
second-at : (layout : Layout) → IsAt layout (Image layout.sectors0) (second_first layout) (16 * blocks_of layout.sectors1) 1
second-at layout n within held = on_layer_1 layout (layout.sectors0 + n) (second_first layout + n) (omega arith) (omega arith)

-- every zone of a disk
zones_by-at : (layout : Layout) (shape : Shape) → layout.shape ≡ shape → AllByRecursion (IsZoneAt layout) (zones_by layout shape)
zones_by-at layout Single is =
    let first = first-at layout (inl (layout.one_layer (ap has_two_layers is))) in
    (tt, (tt, (tt, (tt, (tt, (first, (tt, tt)))))))
zones_by-at layout Parallel is =
    let first = first-at layout (inr (layout.whole_blocks (ap has_two_layers is))) in
    (tt, (tt, (tt, (tt, (tt, (first, (tt, (tt, (tt, (tt, (tt, (tt, (second-at layout, (tt, tt))))))))))))))
zones_by-at layout Opposite is =
    let first = first-at layout (inr (layout.whole_blocks (ap has_two_layers is))) in
    (tt, (tt, (tt, (tt, (tt, (first, (tt, (tt, (second-at layout, (tt, tt))))))))))

-- block b of a zone
content_at-at : (layout : Layout) (content : Content) (first blocks layer b : ℕ) → b < blocks → IsAt layout content first (16 * blocks) layer
    → IsAt layout (content_at content b) (first + 16 * b) 16 layer
content_at-at layout (Image sector) first blocks layer b within at = λ n inside held.
    let far : sector + (16 * b + n) ≡ sector + 16 * b + n = omega arith in
    let number : first + (16 * b + n) ≡ first + 16 * b + n = omega arith in
    let place = at (16 * b + n) (omega arith) (omega arith) in
    rw (← far, ← number) place
content_at-at layout Zero first blocks layer b within at = tt
content_at-at layout Reference first blocks layer b within at = tt
content_at-at layout Control first blocks layer b within at = tt

-- every block of a zone
entries_of-at : (layout : Layout) (zone : Zone) → IsZoneAt layout zone → All (IsBlockAt layout) (entries_of zone)
entries_of-at layout zone at =
    entries_of-each (IsBlockAt layout) zone
    (λ b inside. content_at-at layout zone.content zone.first zone.blocks zone.layer b inside at)

-- every block of a plan
plan_of-at : (layout : Layout) (zones : Zones) → All (IsBlockAt layout) (plan_of layout zones)
plan_of-at layout zones =
    plan_of-each (IsZoneAt layout) (IsBlockAt layout) (entries_of-at layout) layout zones (zones_by-at layout layout.shape refl)

-- image sector f of a block of a plan is at the block's sector number f
pub plan_of-places : (layout : Layout) (zones : Zones) (k from f : ℕ) (entry : BlockPlan) → slice_get (plan_of layout zones) k ≡ Some entry
    → entry.content ≡ Image from → f < 16 → from + f < total_sectors layout → place_of layout (from + f) ≡ (entry.layer, entry.first + f)
plan_of-places layout zones k from f entry is_there image =
    let here = plan_of-at_place (IsBlockAt layout) layout zones k entry (plan_of-at layout zones) is_there in
    let by_content : IsAt layout (Image from) entry.first 16 entry.layer = subst (λ content. IsAt layout content entry.first 16 entry.layer) image here in
    by_content f
