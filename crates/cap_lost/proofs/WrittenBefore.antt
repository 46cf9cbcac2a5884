-- The image sectors of the blocks before one.
use Rattle.std.proofs.Common.{◌≡◌, ◌∙◌, ℕ, ◌+◌, ◌≤◌, [], ◌∷◌, ◌++◌, Some, length, take, slice_get, ap, sym, subst, arith}
use Rattle.std.proofs.lemmas.List.{take_all, take_more}
use Rattle.std.proofs.lemmas.List.Sums.{sum_by-append}
use Rattle.std.proofs.lemmas.Option.{get_or_from_slice_get, slice_get_within}
use Rattle.dvd_layout.specs.Content.{IsImage, image_from}
use Rattle.dvd_layout.specs.Place.{image_before, image_sectors, total_sectors}
use Rattle.dvd_layout.specs.Plan.{plan_of}
use Rattle.dvd_layout.specs.declared.entry.BlockPlan.{BlockPlan}
use Rattle.dvd_layout.specs.declared.entry.Content.TheVariants.{Image}
use Rattle.dvd_layout.specs.declared.layout.Layout.{Layout}
use Rattle.dvd_layout.specs.declared.layout.Zones.{Zones}
use Rattle.dvd_layout.proofs.InOrder.{plan_of-in_order, plan_of-whole}

-- one block more, which holds none
pub passed : (layout : Layout) (zones : Zones) (k : ℕ) (entry : BlockPlan) → slice_get (plan_of layout zones) k ≡ Some entry
    → image_sectors layout entry.content ≡ 0 → image_before layout (take (k + 1) (plan_of layout zones)) ≡ image_before layout (take k (plan_of layout zones))
passed layout zones k entry is_there none =
    let plan = plan_of layout zones in
    let at = slice_get_within plan k entry is_there in
    ap (image_before layout) (take_more plan k entry at ∙ ap (λ e. take k plan ++ e ∷ []) (get_or_from_slice_get plan k entry entry is_there))
    ∙ sum_by-append (λ e. image_sectors layout e.content) (take k plan) (entry ∷ [])
    ∙ omega (arith, none)

-- a block that holds some
pub first_at : (layout : Layout) (zones : Zones) (k first : ℕ) (entry : BlockPlan) → slice_get (plan_of layout zones) k ≡ Some entry
    → entry.content ≡ Image first → first ≡ image_before layout (take k (plan_of layout zones))
first_at layout zones k first entry is_there is =
    sym (plan_of-in_order layout zones k entry is_there (subst IsImage (sym is) tt) ∙ ap image_from is)

-- and the end
pub all_at : (layout : Layout) (zones : Zones) (k : ℕ) → length (plan_of layout zones) ≤ k → total_sectors layout ≡ image_before layout (take k (plan_of layout zones))
all_at layout zones k past = sym (ap (image_before layout) (take_all k (plan_of layout zones) past) ∙ plan_of-whole layout zones)
