-- The last sector of each Data Zone is that of the last frame of its last block.
use Rattle.std.proofs.Common.{◌≡◌, ◌∙◌, ap, sym, subst, ℕ, ◌+◌, ◌-◌, ◌*◌, ◌<◌, inl, inr, ◌==◌, ◌&&◌, if◌then◌else◌, cond, Bool, true, false, refl, arith}
use Rattle.std.proofs.Common.{append-nil, List, [], ◌∷◌, ◌++◌, length, map, Some, option_map}
use Rattle.std.specs.List.{filter, flat_map, range_with_len}
use Rattle.std.proofs.lemmas.List.Elements.{filter-append}
use Rattle.std.proofs.lemmas.List.FromFn.{get_or-map-range_with_len}
use Rattle.std.proofs.lemmas.Option.{slice_get_read}
use Rattle.dvd_layout.specs.declared.entry.BlockPlan.{BlockPlan}
use Rattle.dvd_layout.specs.declared.layout.Layout.{Layout}
use Rattle.dvd_layout.specs.declared.layout.Shape.{Shape}
use Rattle.dvd_layout.specs.declared.layout.Shape.TheVariants.{Single, Parallel, Opposite}
use Rattle.dvd_layout.specs.declared.zone.Zone.{Zone}
use Rattle.dvd_layout.specs.Lengths.{data_first, has_two_layers, is_opposite, padded}
use Rattle.dvd_layout.specs.Plan.{entry_of, entries_of, first_data, is_data, plan_of, second_data, second_first, zones_by}
use Rattle.dvd_layout.proofs.Blocks.{length-entries_of}
use Rattle.dvd_control.specs.Format.{HasLeadIn, fields_for}
use Rattle.dvd_control.specs.Laws.{data_blocks, ends_on, last_block}

-- a Data Zone of this layer
abbrev zone_test : ℕ → Zone → Bool
zone_test layer zone = is_data zone.area && (zone.layer == layer)

-- a block of a Data Zone of this layer
abbrev block_test : ℕ → BlockPlan → Bool
block_test layer entry = is_data entry.area && (entry.layer == layer)

-- a zone's blocks pass the test with the zone
blocks-pass : (layer : ℕ) (zone : Zone) (blocks : List ℕ) → zone_test layer zone ≡ true
    → filter (block_test layer) (map (entry_of zone) blocks) ≡ map (entry_of zone) blocks
blocks-pass layer zone [] passes = refl
blocks-pass layer zone (b ∷ blocks) passes = rw passes (ap (λ rest. entry_of zone b ∷ rest) (blocks-pass layer zone blocks passes))

-- a zone that doesn't pass has no block that does
blocks-fail : (layer : ℕ) (zone : Zone) (blocks : List ℕ) → zone_test layer zone ≡ false
    → filter (block_test layer) (map (entry_of zone) blocks) ≡ []
blocks-fail layer zone [] fails = refl
blocks-fail layer zone (b ∷ blocks) fails = rw fails (blocks-fail layer zone blocks fails)

-- the blocks of a zone and of the zones after it that pass
zone-passes : (layer : ℕ) (zone : Zone) (rest : List Zone) (test : Bool) → zone_test layer zone ≡ test
    → filter (block_test layer) (entries_of zone) ++ flat_map entries_of rest ≡ flat_map entries_of (cond test (zone ∷ rest) rest)
zone-passes layer zone rest true is = ap (λ own. own ++ flat_map entries_of rest) (blocks-pass layer zone (range_with_len 0 zone.blocks) is)
zone-passes layer zone rest false is = ap (λ own. own ++ flat_map entries_of rest) (blocks-fail layer zone (range_with_len 0 zone.blocks) is)

-- the blocks of the zones that pass are the blocks that pass
zones-pass : (layer : ℕ) (zones : List Zone) → filter (block_test layer) (flat_map entries_of zones) ≡ flat_map entries_of (filter (zone_test layer) zones)
zones-pass layer [] = refl
zones-pass layer (zone ∷ zones) =
    filter-append (block_test layer) (entries_of zone) (flat_map entries_of zones)
    ∙ ap (λ rest. filter (block_test layer) (entries_of zone) ++ rest) (zones-pass layer zones)
    ∙ zone-passes layer zone (filter (zone_test layer) zones) (zone_test layer zone) refl

-- the last block of a zone
zone-last : (zone : Zone) → 0 < zone.blocks → last_block (flat_map entries_of (zone ∷ [])) ≡ Some (entry_of zone (zone.blocks - 1))
zone-last zone some =
    let size = length-entries_of zone in
    let last = entry_of zone (zone.blocks - 1) in
    let place = length (entries_of zone) - 1 in
    ap last_block (append-nil (entries_of zone))
    ∙ slice_get_read (entries_of zone) (length (entries_of zone)) place last refl (omega arith)
    (sym (get_or-map-range_with_len (entry_of zone) 0 zone.blocks place (zone.blocks - 1) last (omega arith) (omega arith)))

-- where one zone alone passes, its last sector is that of the last frame of the last block that passes
one-zone : (layer : ℕ) (zones : List Zone) (zone : Zone) (last : ℕ) → filter (zone_test layer) zones ≡ zone ∷ [] → 0 < zone.blocks
    → zone.first + 16 * zone.blocks - 1 ≡ last
    → option_map (λ entry. entry.first + 15) (last_block (filter (block_test layer) (flat_map entries_of zones))) ≡ Some last
one-zone layer zones zone last alone some ends =
    let block : last_block (filter (block_test layer) (flat_map entries_of zones)) ≡ Some (entry_of zone (zone.blocks - 1)) =
    ap last_block (zones-pass layer zones ∙ ap (flat_map entries_of) alone) ∙ zone-last zone some in
    let number : zone.first + 16 * (zone.blocks - 1) + 15 ≡ last = omega arith in
    ap (option_map (λ entry. entry.first + 15)) block ∙ ap Some number

-- the last sector that the lead-in of a layer names, by the shape
abbrev pub last_by : Shape → Layout → ℕ → ℕ
last_by shape layout layer =
    if is_opposite shape then second_first layout + padded layout.sectors1 - 1
    else data_first + padded (if layer == 0 then layout.sectors0 else layout.sectors1) - 1

-- on the opposite track path the data of layer 1 begin as far before FD0000 as those of layer 0 are long
pub opposite-first : (layout : Layout) → layout.shape ≡ Opposite → second_first layout ≡ 0xFD0000 - padded layout.sectors0
opposite-first layout is = ap (λ s. if is_opposite s then 0xFD0000 - padded layout.sectors0 else data_first) is

-- the lead-in of a layer names the last sector of the Data Zone
abbrev AreKnown : Layout → Shape → ℕ → Type 0
AreKnown layout shape layer =
    option_map (λ entry. entry.first + 15) (last_block (filter (block_test (ends_on shape layer)) (flat_map entries_of (zones_by layout shape))))
    ≡ Some (last_by shape layout layer)

-- one layer isn't two
single-not_parallel : Single ≡ Parallel → ⊥
single-not_parallel same = cc

-- it is named rightly, since of the zones of a disk one alone is the Data Zone of that layer
shape-told : (layout : Layout) (shape : Shape) (layer : ℕ) → layout.shape ≡ shape → HasLeadIn shape layer → AreKnown layout shape layer
shape-told layout Single layer is (inl zero) =
    subst (AreKnown layout Single) (sym zero) (one-zone 0 (zones_by layout Single) (first_data layout) _ refl (omega arith) (omega arith))
shape-told layout Single layer is (inr other) = absurd (single-not_parallel other.1)
shape-told layout Parallel layer is (inl zero) =
    subst (AreKnown layout Parallel) (sym zero) (one-zone 0 (zones_by layout Parallel) (first_data layout) _ refl (omega arith) (omega arith))
shape-told layout Parallel layer is (inr one) =
    let some = layout.second_layer (ap has_two_layers is) in
    let begins : second_first layout ≡ data_first = ap (λ s. if is_opposite s then 0xFD0000 - padded layout.sectors0 else data_first) is in
    subst (AreKnown layout Parallel) (sym one.0) (one-zone 1 (zones_by layout Parallel) (second_data layout) _ refl (omega arith) (omega arith))
shape-told layout Opposite layer is lead_in =
    let some = layout.second_layer (ap has_two_layers is) in
    let begins = opposite-first layout is in
    one-zone 1 (zones_by layout Opposite) (second_data layout) _ refl (omega arith) (omega arith)

-- the lead-in of a layer names the last sector of the last block of the Data Zone that it speaks of
pub last-told : (layout : Layout) (layer : ℕ) → HasLeadIn layout.shape layer
    → option_map (λ entry. entry.first + 15) (last_block (data_blocks layout (ends_on layout.shape layer))) ≡ Some (fields_for layout layer).last
unfolding plan_of fields_for
last-told layout layer lead_in = shape-told layout layout.shape layer refl lead_in
