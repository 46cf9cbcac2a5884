-- Entries of a plan.
use Rattle.std.proofs.Common.{◌≡◌, ◌≤◌, ℕ, List, All, slice_get, Some, ◌∙◌, sym, subst, inl, inr, length, ◌<◌, arith}
use Rattle.std.proofs.lemmas.Option.{get_or_from_slice_get, slice_get_within, slice_get_cases}
use Rattle.dvd_layout.specs.Place.{HasNumbers}
use Rattle.dvd_layout.specs.Plan.{lead_in_blocks, plan_of}
use Rattle.dvd_layout.specs.declared.entry.BlockPlan.{BlockPlan}
use Rattle.dvd_layout.specs.declared.layout.Layout.{Layout}
use Rattle.dvd_layout.specs.declared.layout.Zones.{Zones}
use Rattle.dvd_layout.proofs.Ranges.{lead_in_blocks-numbers, plan_of-numbers}

-- each entry of a list has numbers of 24 bits, where all of them have
numbers_in : (entries : List BlockPlan) → All HasNumbers entries → (k : ℕ) (entry : BlockPlan) → slice_get entries k ≡ Some entry → HasNumbers entry
numbers_in entries are k entry is_there = subst HasNumbers (get_or_from_slice_get entries k entry entry is_there) (are k entry (slice_get_within entries k entry is_there))

-- the numbers of an entry of a plan have 24 bits
pub has_numbers : (layout : Layout) (zones : Zones) (k : ℕ) (entry : BlockPlan) → slice_get (plan_of layout zones) k ≡ Some entry → HasNumbers entry
has_numbers layout zones = numbers_in (plan_of layout zones) (plan_of-numbers layout zones)

-- and so have those of a block of the lead-in
pub lead_in-has_numbers : (initial : ℕ) → initial ≤ 12031 → (k : ℕ) (entry : BlockPlan) → slice_get (lead_in_blocks initial) k ≡ Some entry → HasNumbers entry
lead_in-has_numbers initial fits = numbers_in (lead_in_blocks initial) (lead_in_blocks-numbers initial fits)

-- the entry at a place of a plan is the only one there
pub one_entry : (plan : List BlockPlan) (k : ℕ) (a b : BlockPlan) → slice_get plan k ≡ Some a → slice_get plan k ≡ Some b → a ≡ b
one_entry plan k a b first second = sym (get_or_from_slice_get plan k a a first) ∙ get_or_from_slice_get plan k b a second

-- a place of a plan has an entry
pub some_entry : (entries : List BlockPlan) (k : ℕ) → k < length entries → (entry : BlockPlan) × (slice_get entries k ≡ Some entry)
some_entry entries k within = elim (slice_get_cases entries k).1 [
  | inl (entry, below, is_there, read) ↦ (entry, is_there)
  | inr (past, none) ↦ absurd (omega arith)
]
