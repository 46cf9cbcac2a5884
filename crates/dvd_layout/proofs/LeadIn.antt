-- The blocks of the lead-in: where the control data are among them, and that a plan begins with them.
use Rattle.std.proofs.Common.{◌≡◌, ◌≢◌, ◌∙◌, inl, inr, sym, ap, subst, ℕ, ◌+◌, ◌-◌, ◌*◌, ◌<◌, List, [], ◌∷◌, ◌++◌, length, take, Some, slice_get, refl, arith, length-append}
use Rattle.std.specs.List.{flat_map}
use Rattle.std.proofs.Math.Seq.{take-append_seam}
use Rattle.std.proofs.lemmas.Bool.{cases_lt}
use Rattle.std.proofs.lemmas.Grind.{flat_map-append}
use Rattle.std.proofs.lemmas.List.Concat.{flat_map-cons}
use Rattle.dvd_frame.specs.declared.id.Area.TheVariants.{LeadIn}
use Rattle.dvd_layout.specs.Laws.{ControlDataIsInTheLeadIn, PlanBeginsWithTheLeadIn}
use Rattle.dvd_layout.specs.Plan.{entries_of, entry_of, lead_in, lead_in_blocks, plan_of, zone_of, zones_by}
use Rattle.dvd_layout.specs.declared.entry.BlockPlan.{BlockPlan}
use Rattle.dvd_layout.specs.declared.entry.Content.TheVariants.{Zero, Reference, Control}
use Rattle.dvd_layout.specs.declared.layout.Layout.{Layout}
use Rattle.dvd_layout.specs.declared.layout.Shape.{Shape}
use Rattle.dvd_layout.specs.declared.layout.Shape.TheVariants.{Single, Parallel, Opposite}
use Rattle.dvd_layout.specs.declared.zone.Zone.{Zone}
use Rattle.dvd_layout.proofs.Blocks.{block-at, blocks_before, length-entries_of}

-- the blocks of a zone and of those after it
length-zones : (zone : Zone) (zones : List Zone) → length (flat_map entries_of (zone ∷ zones)) ≡ zone.blocks + length (flat_map entries_of zones)
length-zones zone zones = ap length (flat_map-cons entries_of zone zones) ∙ length-append (entries_of zone) (flat_map entries_of zones)
    ∙ ap (λ n. n + length (flat_map entries_of zones)) (length-entries_of zone)

module _ (initial : ℕ) where
  -- the blocks of zeros of the Initial Zone, before the reference code
  abbrev initial_zone : Zone
  initial_zone = zone_of (0x2F000 - 16 * initial) initial LeadIn 0 Zero

  -- the two blocks of the Reference Code Zone, from sector number 0x2F000 on
  abbrev reference : Zone
  reference = zone_of 0x2F000 2 LeadIn 0 Reference

  -- the 30 blocks of zeros of Buffer Zone 1
  abbrev buffer : Zone
  buffer = zone_of 0x2F020 30 LeadIn 0 Zero

  -- the 192 blocks of the Control Data Zone, from sector number 0x2F200 on
  abbrev control : Zone
  control = zone_of 0x2F200 192 LeadIn 0 Control

  -- the 32 blocks of zeros of Buffer Zone 2, before the Data Zone
  abbrev last_buffer : Zone
  last_buffer = zone_of 0x2FE00 32 LeadIn 0 Zero

  -- the lead-in has 256 blocks and those of its Initial Zone
  pub length-lead_in_blocks : length (lead_in_blocks initial) ≡ initial + 256
  unfolding lead_in_blocks
  length-lead_in_blocks =
      let a = length-zones initial_zone (reference ∷ buffer ∷ control ∷ last_buffer ∷ []) in
      let b = length-zones reference (buffer ∷ control ∷ last_buffer ∷ []) in
      let c = length-zones buffer (control ∷ last_buffer ∷ []) in
      let d = length-zones control (last_buffer ∷ []) in
      let e = length-zones last_buffer [] in
      let none : length (flat_map entries_of []) ≡ 0 = refl in
      omega arith

  -- before the reference code come the blocks of the Initial Zone
  before-one : blocks_before (lead_in initial 0) 1 ≡ initial
  before-one =
      let a = length-zones initial_zone [] in
      let none : length (flat_map entries_of []) ≡ 0 = refl in
      omega arith

  -- before Buffer Zone 1 come two blocks more
  before-two : blocks_before (lead_in initial 0) 2 ≡ initial + 2
  before-two =
      let a = length-zones initial_zone (reference ∷ []) in
      let b = length-zones reference [] in
      let none : length (flat_map entries_of []) ≡ 0 = refl in
      omega arith

  -- before the control data come 30 blocks more, 32 in all after the Initial Zone
  before-three : blocks_before (lead_in initial 0) 3 ≡ initial + 32
  before-three =
      let a = length-zones initial_zone (reference ∷ buffer ∷ []) in
      let b = length-zones reference (buffer ∷ []) in
      let c = length-zones buffer [] in
      let none : length (flat_map entries_of []) ≡ 0 = refl in
      omega arith

  -- where the block at a place holds no control data, none is read there
  not_control : (k : ℕ) (own entry : BlockPlan) → slice_get (flat_map entries_of (lead_in initial 0)) k ≡ Some own → own.content ≢ Control
      → slice_get (flat_map entries_of (lead_in initial 0)) k ≡ Some entry → entry.content ≢ Control
  not_control k own entry is_there not read is =
      let same : own ≡ entry = (let some : Some own ≡ Some entry = sym is_there ∙ read in cc) in
      not (ap (λ (e : BlockPlan). e.content) same ∙ is)

  -- the first places of the lead-in are the blocks of the Initial Zone
  in_initial : (k : ℕ) → k < initial → slice_get (flat_map entries_of (lead_in initial 0)) k ≡ Some (entry_of initial_zone k)
  in_initial k below = block-at (lead_in initial 0) 0 k k control (omega arith) below (let none : length (flat_map entries_of []) ≡ 0 = refl in omega arith)

  -- the two places after the Initial Zone are the blocks of the reference code
  in_reference : (b : ℕ) → b < 2 → slice_get (flat_map entries_of (lead_in initial 0)) (initial + b) ≡ Some (entry_of reference b)
  in_reference b below = block-at (lead_in initial 0) 1 b (initial + b) control (omega arith) below (omega (arith, before-one))

  -- the 30 places after the reference code are the blocks of Buffer Zone 1
  in_buffer : (b : ℕ) → b < 30 → slice_get (flat_map entries_of (lead_in initial 0)) (initial + 2 + b) ≡ Some (entry_of buffer b)
  in_buffer b below = block-at (lead_in initial 0) 2 b (initial + 2 + b) control (omega arith) below (omega (arith, before-two))

  -- the 192 places after Buffer Zone 1 are the blocks of the control data
  in_control : (c : ℕ) → c < 192 → slice_get (flat_map entries_of (lead_in initial 0)) (initial + 32 + c) ≡ Some (entry_of control c)
  in_control c below = block-at (lead_in initial 0) 3 c (initial + 32 + c) control (omega arith) below (omega (arith, before-three))

  -- no block before the control data holds any
  none_before : (k : ℕ) (entry : BlockPlan) → k < initial + 32 → slice_get (flat_map entries_of (lead_in initial 0)) k ≡ Some entry → entry.content ≢ Control
  none_before k entry below read = elim (cases_lt k initial) [
    | inl lt ↦ not_control k (entry_of initial_zone k) entry (in_initial k lt) (λ is. cc) read
    | inr le ↦ elim (cases_lt k (initial + 2)) [
      | inl lt ↦
          let b = k - initial in
          let is_there = subst (λ n. slice_get (flat_map entries_of (lead_in initial 0)) n ≡ Some (entry_of reference b)) (let is : initial + b ≡ k = omega arith in is) (in_reference b (omega arith)) in
          not_control k (entry_of reference b) entry is_there (λ is. cc) read
      | inr further ↦
          let b = k - (initial + 2) in
          let is_there = subst (λ n. slice_get (flat_map entries_of (lead_in initial 0)) n ≡ Some (entry_of buffer b)) (let is : initial + 2 + b ≡ k = omega arith in is) (in_buffer b (omega arith)) in
          not_control k (entry_of buffer b) entry is_there (λ is. cc) read
    ]
  ]

  -- so the control data are in 192 blocks of the lead-in, after 32 and those of the Initial Zone
  pub control_data_is : ControlDataIsInTheLeadIn initial
  unfolding lead_in_blocks
  control_data_is = record { stand = in_control; none_before = none_before }

-- the zones of a disk begin with those of the lead-in
begins : (layout : Layout) (shape : Shape) → (rest : List Zone) × (zones_by layout shape ≡ lead_in layout.initial 0 ++ rest)
begins layout Single = (_, refl)
begins layout Parallel = (_, refl)
begins layout Opposite = (_, refl)

-- the plan of all zones begins with the blocks of the lead-in of layer 0
pub plan_begins : PlanBeginsWithTheLeadIn
unfolding plan_of lead_in_blocks
plan_begins layout =
    let zones = begins layout layout.shape in
    let lead = flat_map entries_of (lead_in layout.initial 0) in
    ap (λ zones. take (layout.initial + 256) (flat_map entries_of zones)) zones.1
    ∙ ap (take (layout.initial + 256)) (flat_map-append entries_of (lead_in layout.initial 0) zones.0)
    ∙ ap (λ n. take n (lead ++ flat_map entries_of zones.0)) (sym (length-lead_in_blocks layout.initial))
    ∙ take-append_seam lead (flat_map entries_of zones.0)
