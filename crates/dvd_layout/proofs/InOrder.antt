-- The image sectors of a plan follow one another, from the first to the last.
use Rattle.std.proofs.Common.{zero, suc, ◌≡◌, ◌∙◌, sym, ap, subst, ℕ, ◌+◌, ◌-◌, ◌*◌, ◌<◌, ◌≤◌, ◌⊎◌, inl, inr, min, refl, arith, add-one}
use Rattle.std.proofs.Common.{List, [], ◌∷◌, ◌++◌, length, get_or, take, map, Some, slice_get, length-append}
use Rattle.std.specs.List.{filter, flat_map, range_with_len}
use Rattle.std.proofs.Math.Seq.{take-append-add}
use Rattle.std.proofs.lemmas.Bool.{cases_lt}
use Rattle.std.proofs.lemmas.List.{take-append-le, get_or_append_left, get_or-append-add}
use Rattle.std.proofs.lemmas.List.Sums.{sum_by-append}
use Rattle.std.proofs.lemmas.List.FromFn.{get_or-map-range_with_len, sum_by-map-range_with_len_more, take-map-range_with_len}
use Rattle.std.proofs.lemmas.Option.{get_or_from_slice_get, slice_get_read, slice_get_within}
use Rattle.dvd_layout.specs.declared.entry.BlockPlan.{BlockPlan}
use Rattle.dvd_layout.specs.declared.entry.Content.{Content}
use Rattle.dvd_layout.specs.declared.entry.Content.TheVariants.{Zero, Reference, Control, Image}
use Rattle.dvd_layout.specs.declared.layout.Layout.{Layout}
use Rattle.dvd_layout.specs.declared.layout.Shape.{Shape}
use Rattle.dvd_layout.specs.declared.layout.Shape.TheVariants.{Single, Parallel, Opposite}
use Rattle.dvd_layout.specs.declared.layout.Zones.{Zones}
use Rattle.dvd_layout.specs.declared.layout.Zones.TheVariants.{DataOnly, All as AllZones}
use Rattle.dvd_layout.specs.declared.zone.Zone.{Zone}
use Rattle.dvd_layout.specs.Content.{IsImage, content_at, image_from}
use Rattle.dvd_layout.specs.Lengths.{blocks_of, has_two_layers}
use Rattle.dvd_layout.specs.Place.{image_before, image_sectors, total_sectors}
use Rattle.dvd_layout.specs.Plan.{entry_of, entries_of, is_data, plan_of, zone_table, zones_by}
use Rattle.dvd_layout.proofs.Blocks.{length-entries_of}

-- the image sectors of the first n blocks of a zone of this content
abbrev held : Layout → Content → ℕ → ℕ
held layout (Image sector) n = min (16 * n) (total_sectors layout - sector)
held layout Zero n = 0
held layout Reference n = 0
held layout Control n = 0

-- no block holds no image sector
held-none : (layout : Layout) (content : Content) → held layout content 0 ≡ 0
held-none layout (Image sector) = omega arith
held-none layout Zero = refl
held-none layout Reference = refl
held-none layout Control = refl

-- one block more holds its own image sectors more
held-more : (layout : Layout) (content : Content) (n : ℕ) → held layout content (n + 1) ≡ held layout content n + image_sectors layout (content_at content n)
held-more layout (Image sector) n = omega arith
held-more layout Zero n = refl
held-more layout Reference n = refl
held-more layout Control n = refl

-- these are the image sectors of the first n blocks of a zone
held-entries : (layout : Layout) (zone : Zone) (n : ℕ) → image_before layout (map (entry_of zone) (range_with_len 0 n)) ≡ held layout zone.content n
held-entries layout zone zero = sym (held-none layout zone.content)
held-entries layout zone (suc n) =
    subst (λ m. image_before layout (map (entry_of zone) (range_with_len 0 m)) ≡ held layout zone.content m) (add-one n)
    (sum_by-map-range_with_len_more (λ entry. image_sectors layout entry.content) (entry_of zone) 0 n n (omega arith)
    ∙ ap (λ m. m + image_sectors layout (content_at zone.content n)) (held-entries layout zone n)
    ∙ sym (held-more layout zone.content n))

-- a zone of image begins with this image sector, and all its blocks but the last are full
abbrev GoesOn : Layout → ℕ → Content → ℕ → Type 0
GoesOn layout from (Image sector) blocks = (sector ≡ from) × ((b : ℕ) → b < blocks → 16 * b ≤ total_sectors layout - sector)
GoesOn layout from Zero blocks = Unit {0}
GoesOn layout from Reference blocks = Unit {0}
GoesOn layout from Control blocks = Unit {0}

-- the zones hold the image from this sector on, to its last
abbrev InOrder : Layout → ℕ → List Zone → Type 0
InOrder layout from [] = from ≡ total_sectors layout
InOrder layout from (zone ∷ zones) = GoesOn layout from zone.content zone.blocks × InOrder layout (from + held layout zone.content zone.blocks) zones

-- block b of a zone holds the image sectors after those of the blocks before it
block-goes_on : (layout : Layout) (content : Content) (from blocks b : ℕ) → GoesOn layout from content blocks → b < blocks → IsImage (content_at content b)
    → from + held layout content b ≡ image_from (content_at content b)
block-goes_on layout (Image sector) from blocks b goes within image = let full = goes.1 b within in let begins = goes.0 in omega arith
block-goes_on layout Zero from blocks b goes within image = absurd image
block-goes_on layout Reference from blocks b goes within image = absurd image
block-goes_on layout Control from blocks b goes within image = absurd image

-- the zones hold the whole image
in_order-whole : (layout : Layout) (zones : List Zone) (from : ℕ) → InOrder layout from zones
    → from + image_before layout (flat_map entries_of zones) ≡ total_sectors layout
in_order-whole layout [] from order = omega arith
in_order-whole layout (zone ∷ zones) from order =
    let rest = in_order-whole layout zones (from + held layout zone.content zone.blocks) order.1 in
    let own = held-entries layout zone zone.blocks in
    let both = sum_by-append (λ entry. image_sectors layout entry.content) (entries_of zone) (flat_map entries_of zones) in
    omega arith

-- the blocks before block k of the first zone
in_first : (layout : Layout) (zone : Zone) (rest : List BlockPlan) (from k : ℕ) (entry : BlockPlan) → GoesOn layout from zone.content zone.blocks → k < zone.blocks
    → slice_get (entries_of zone ++ rest) k ≡ Some entry → IsImage entry.content
    → from + image_before layout (take k (entries_of zone ++ rest)) ≡ image_from entry.content
in_first layout zone rest from k entry goes within is_there image =
    let size = length-entries_of zone in
    let short : k ≤ length (entries_of zone) = omega arith in
    let inside : k < length (entries_of zone) = omega arith in
    let is : entry_of zone k ≡ entry =
    sym (get_or-map-range_with_len (entry_of zone) 0 zone.blocks k k entry within (omega arith))
    ∙ sym (get_or_append_left (entries_of zone) rest entry k inside)
    ∙ get_or_from_slice_get (entries_of zone ++ rest) k entry entry is_there in
    let before : image_before layout (take k (entries_of zone ++ rest)) ≡ held layout zone.content k =
    ap (image_before layout) (take-append-le k (entries_of zone) rest short ∙ take-map-range_with_len (entry_of zone) 0 zone.blocks k (omega arith))
    ∙ held-entries layout zone k in
    let image_there : IsImage (content_at zone.content k) = subst (λ e. IsImage e.content) (sym is) image in
    ap (λ n. from + n) before ∙ block-goes_on layout zone.content from zone.blocks k goes within image_there ∙ ap (λ e. image_from e.content) is

-- an element after the first list is in the second
slice_get-after : {X : Type 0} (xs ys : List X) (k : ℕ) (x : X) → length xs ≤ k → slice_get (xs ++ ys) k ≡ Some x
    → slice_get ys (k - length xs) ≡ Some x
slice_get-after xs ys k x farther is_there =
    let within = slice_get_within (xs ++ ys) k x is_there in
    let size = length-append xs ys in
    let place : length xs + (k - length xs) ≡ k = omega arith in
    slice_get_read ys (length ys) (k - length xs) x refl (omega arith)
    (sym (get_or_from_slice_get (xs ++ ys) k x x is_there) ∙ ap (λ n. get_or (xs ++ ys) n x) (sym place) ∙ get_or-append-add xs ys (k - length xs) x)

-- the image sectors before a block after the first zone are those of that zone, and those before the block in the
-- others
before-after : (layout : Layout) (zone : Zone) (rest : List BlockPlan) (k : ℕ) → length (entries_of zone) ≤ k
    → image_before layout (take k (entries_of zone ++ rest)) ≡ held layout zone.content zone.blocks + image_before layout (take (k - length (entries_of zone)) rest)
before-after layout zone rest k farther =
    let j = k - length (entries_of zone) in
    let place : k ≡ length (entries_of zone) + j = omega arith in
    ap (λ n. image_before layout (take n (entries_of zone ++ rest))) place
    ∙ ap (image_before layout) (take-append-add (entries_of zone) rest j)
    ∙ sum_by-append (λ entry. image_sectors layout entry.content) (entries_of zone) (take j rest)
    ∙ ap (λ n. n + image_before layout (take j rest)) (held-entries layout zone zone.blocks)

-- the blocks before a block of image hold the image sectors before its first
in_order-is_there : (layout : Layout) (zones : List Zone) (from k : ℕ) (entry : BlockPlan) → InOrder layout from zones
    → slice_get (flat_map entries_of zones) k ≡ Some entry → IsImage entry.content
    → from + image_before layout (take k (flat_map entries_of zones)) ≡ image_from entry.content
in_order-is_there layout [] from k entry order is_there image = let none = slice_get_within [] k entry is_there in absurd (omega arith)
in_order-is_there layout (zone ∷ zones) from k entry order is_there image =
    by_place (cases_lt k zone.blocks) (λ j later. in_order-is_there layout zones (from + held layout zone.content zone.blocks) j entry order.1 later image) where
      by_place : (k < zone.blocks) ⊎ (zone.blocks ≤ k)
          → ((j : ℕ) → slice_get (flat_map entries_of zones) j ≡ Some entry
          → from + held layout zone.content zone.blocks + image_before layout (take j (flat_map entries_of zones)) ≡ image_from entry.content)
          → from + image_before layout (take k (entries_of zone ++ flat_map entries_of zones)) ≡ image_from entry.content
      by_place (inl within) in_rest = in_first layout zone (flat_map entries_of zones) from k entry order.0 within is_there image
      by_place (inr past) in_rest =
          let size = length-entries_of zone in
          let farther : length (entries_of zone) ≤ k = omega arith in
          let rest = in_rest (k - length (entries_of zone)) (slice_get-after (entries_of zone) (flat_map entries_of zones) k entry farther is_there) in
          let before = before-after layout zone (flat_map entries_of zones) k farther in
          omega arith

-- the Data Zone of layer 0 begins with the first image sector
first-goes_on : (layout : Layout) → GoesOn layout 0 (Image 0) (blocks_of layout.sectors0)
first-goes_on layout = (refl, λ b within. omega arith)

-- that of layer 1 begins after the last sector of layer 0
second-goes_on : (layout : Layout) (from : ℕ) → layout.sectors0 ≡ from → GoesOn layout from (Image layout.sectors0) (blocks_of layout.sectors1)
second-goes_on layout from is = (is, λ b within. omega arith)

-- the zones of a disk hold the image in order
zones_by-in_order : (layout : Layout) (shape : Shape) → layout.shape ≡ shape → InOrder layout 0 (zones_by layout shape)
zones_by-in_order layout Single is =
    let one_layer = layout.one_layer (ap has_two_layers is) in
    (tt, (tt, (tt, (tt, (tt, (first-goes_on layout, (tt, omega arith)))))))
zones_by-in_order layout Parallel is =
    let whole_blocks = layout.whole_blocks (ap has_two_layers is) in
    (tt, (tt, (tt, (tt, (tt, (first-goes_on layout, (tt, (tt, (tt, (tt, (tt, (tt, (second-goes_on layout _ (omega arith), (tt, omega arith))))))))))))))
zones_by-in_order layout Opposite is =
    let whole_blocks = layout.whole_blocks (ap has_two_layers is) in
    (tt, (tt, (tt, (tt, (tt, (first-goes_on layout, (tt, (tt, (second-goes_on layout _ (omega arith), (tt, omega arith))))))))))

-- so do its Data Zones alone
data_zones-in_order : (layout : Layout) (shape : Shape) → layout.shape ≡ shape → InOrder layout 0 (filter (λ zone. is_data zone.area) (zones_by layout shape))
data_zones-in_order layout Single is =
    let one_layer = layout.one_layer (ap has_two_layers is) in
    (first-goes_on layout, omega arith)
data_zones-in_order layout Parallel is =
    let whole_blocks = layout.whole_blocks (ap has_two_layers is) in
    (first-goes_on layout, (second-goes_on layout _ (omega arith), omega arith))
data_zones-in_order layout Opposite is =
    let whole_blocks = layout.whole_blocks (ap has_two_layers is) in
    (first-goes_on layout, (second-goes_on layout _ (omega arith), omega arith))

-- and so the zones of a stream
zone_table-in_order : (layout : Layout) (zones : Zones) → InOrder layout 0 (zone_table layout zones)
zone_table-in_order layout AllZones = zones_by-in_order layout layout.shape refl
zone_table-in_order layout DataOnly = data_zones-in_order layout layout.shape refl

-- the blocks of a plan hold the whole image
pub plan_of-whole : (layout : Layout) (zones : Zones) → image_before layout (plan_of layout zones) ≡ total_sectors layout
unfolding plan_of
plan_of-whole layout zones = let whole = in_order-whole layout (zone_table layout zones) 0 (zone_table-in_order layout zones) in omega arith

-- the blocks before a block of image in a plan hold the image sectors before its first
pub plan_of-in_order : (layout : Layout) (zones : Zones) (k : ℕ) (entry : BlockPlan) → slice_get (plan_of layout zones) k ≡ Some entry → IsImage entry.content
    → image_before layout (take k (plan_of layout zones)) ≡ image_from entry.content
unfolding plan_of
plan_of-in_order layout zones k entry is_there image =
    let order = in_order-is_there layout (zone_table layout zones) 0 k entry (zone_table-in_order layout zones) is_there image in omega arith
