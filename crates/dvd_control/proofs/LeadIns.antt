-- Control data are in lead-ins alone: on layer 0, and on layer 1 where its track is read from the inside. Also the Main
-- Data of entries that hold no image, by their content.
use Rattle.std.proofs.Common.{◌≡◌, ℕ, All, ◌≢◌, replicate, nat_eq, false, inl, inr, refl, subst, arith}
use Rattle.std.specs.List.{AllByRecursion}
use Rattle.std.proofs.lemmas.Bool.Decides.{nat_tests}
use Rattle.dvd_layout.specs.declared.entry.BlockPlan.{BlockPlan}
use Rattle.dvd_layout.specs.declared.entry.Content.{Content}
use Rattle.dvd_layout.specs.declared.entry.Content.TheVariants.{Zero, Reference, Control, Image}
use Rattle.dvd_layout.specs.declared.layout.Layout.{Layout}
use Rattle.dvd_layout.specs.declared.layout.Shape.{Shape}
use Rattle.dvd_layout.specs.declared.layout.Shape.TheVariants.{Single, Parallel, Opposite}
use Rattle.dvd_layout.specs.declared.layout.Zones.{Zones}
use Rattle.dvd_layout.specs.declared.zone.Zone.{Zone}
use Rattle.dvd_layout.specs.Content.{content_at}
use Rattle.dvd_layout.specs.Plan.{IsEntry, entries_of, zones_by, plan_of}
use Rattle.dvd_layout.proofs.Blocks.{entries_of-each, plan_of-at_place, plan_of-each}
use Rattle.dvd_control.specs.Format.{HasLeadIn, fields_for, format_bytes}
use Rattle.dvd_control.specs.MainData.{main_bytes}

-- control data ask for a layer with a lead-in, and other contents for nothing
abbrev pub ControlInLeadIn : Shape → ℕ → Content → Type 0
ControlInLeadIn shape layer Control = HasLeadIn shape layer
ControlInLeadIn shape layer Zero = Unit {0}
ControlInLeadIn shape layer Reference = Unit {0}
ControlInLeadIn shape layer (Image sector) = Unit {0}

-- a zone with control data is on a layer with a lead-in
abbrev IsRightZone : Shape → Zone → Type 0
IsRightZone shape zone = ControlInLeadIn shape zone.layer zone.content

-- a block with control data is on a layer with a lead-in
abbrev IsRightEntry : Shape → BlockPlan → Type 0
IsRightEntry shape entry = ControlInLeadIn shape entry.layer entry.content

-- so is every zone of a disk
zones_by-right : (layout : Layout) (shape : Shape) → AllByRecursion (IsRightZone shape) (zones_by layout shape)
zones_by-right layout Single = (tt, (tt, (tt, (inl refl, (tt, (tt, (tt, tt)))))))
zones_by-right layout Parallel =
    (tt, (tt, (tt, (inl refl, (tt, (tt, (tt, (tt, (tt, (tt, (inr (refl, refl), (tt, (tt, (tt, tt))))))))))))))
zones_by-right layout Opposite = (tt, (tt, (tt, (inl refl, (tt, (tt, (tt, (tt, (tt, (tt, tt))))))))))

-- a block's content has control data only where its zone's does
content_at-right : (shape : Shape) (layer b : ℕ) (content : Content) → ControlInLeadIn shape layer content → ControlInLeadIn shape layer (content_at content b)
content_at-right shape layer b Control right = right
content_at-right shape layer b Zero right = tt
content_at-right shape layer b Reference right = tt
content_at-right shape layer b (Image sector) right = tt

-- where a zone is right, its blocks are
entries_of-right : (shape : Shape) (zone : Zone) → IsRightZone shape zone → All (IsRightEntry shape) (entries_of zone)
entries_of-right shape zone right =
    entries_of-each (IsRightEntry shape) zone (λ b _. content_at-right shape zone.layer b zone.content right)

-- every block of a plan with control data is on a layer with a lead-in
plan_of-right : (layout : Layout) (zones : Zones) → All (IsRightEntry layout.shape) (plan_of layout zones)
plan_of-right layout zones =
    plan_of-each (IsRightZone layout.shape) (IsRightEntry layout.shape) (entries_of-right layout.shape) layout zones
    (zones_by-right layout layout.shape)

-- an entry with control data is in a lead-in
pub entry-in_lead_in : (layout : Layout) (entry : BlockPlan) → IsEntry layout entry → ControlInLeadIn layout.shape entry.layer entry.content
entry-in_lead_in layout entry is =
    plan_of-at_place (IsRightEntry layout.shape) layout is.zones is.place entry (plan_of-right layout is.zones) is.is_there

-- so a layer that has an entry with control data has a lead-in
pub control-has_lead_in : (layout : Layout) (entry : BlockPlan) → IsEntry layout entry → entry.content ≡ Control → HasLeadIn layout.shape entry.layer
control-has_lead_in layout entry is control = subst (ControlInLeadIn layout.shape entry.layer) control (entry-in_lead_in layout entry is)

-- the Main Data of an entry of zeros
pub zero_bytes : (layout : Layout) (entry : BlockPlan) (f : ℕ) → entry.content ≡ Zero → replicate 2048 0 ≡ main_bytes layout entry f
unfolding main_bytes
zero_bytes layout entry f is = rw is refl

-- the Main Data of an entry of the reference code
pub reference_bytes : (layout : Layout) (entry : BlockPlan) (f : ℕ) → entry.content ≡ Reference → replicate 2048 0xAC ≡ main_bytes layout entry f
unfolding main_bytes
reference_bytes layout entry f is = rw is refl

-- the first frame of a control block holds the physical format
pub control_first : (layout : Layout) (entry : BlockPlan) (f : ℕ) → entry.content ≡ Control → f ≡ 0
    → format_bytes (fields_for layout entry.layer) ≡ main_bytes layout entry f
unfolding main_bytes
control_first layout entry f is first = rw (is, first) refl

-- and its other frames hold zeros
pub control_after : (layout : Layout) (entry : BlockPlan) (f : ℕ) → entry.content ≡ Control → f ≢ 0
    → replicate 2048 0 ≡ main_bytes layout entry f
unfolding main_bytes
control_after layout entry f is past =
    let not_first : nat_eq f 0 ≡ false = grind (arith, nat_tests) in
    rw (is, not_first) refl
