-- What the blocks of a disk take of the image.
use Rattle.std.proofs.Common.{◌≡◌, ℕ, ◌*◌, List, length, slice_get, Some, refl, ap, sym, ◌∙◌, arith}
use Rattle.std.proofs.lemmas.Option.{slice_get_within}
use Rattle.dvd_layout.specs.Content.{IsImage, image_from}
use Rattle.dvd_layout.specs.Place.{total_sectors}
use Rattle.dvd_layout.specs.Plan.{plan_of}
use Rattle.dvd_layout.specs.declared.entry.BlockPlan.{BlockPlan}
use Rattle.dvd_layout.specs.declared.layout.Layout.{Layout}
use Rattle.dvd_layout.specs.declared.layout.Zones.{Zones}
use Rattle.dvd_layout.proofs.InOrder.{plan_of-in_order}
use Rattle.dvd_loop.specs.Laws.{IsFaultless, first}
use Rattle.dvd_loop.specs.Machine.{IsOutcome, Outcome, Step}
use Rattle.dvd_loop.specs.declared.ends.LoopEnd.TheVariants.{Done}
use Rattle.dvd_loop.specs.declared.ends.UnitKind.TheVariants.{Good, Last}
use Rattle.dvd_loop.proofs.Over.{AreGood, over}
use Rattle.dvd_loop.proofs.Taken.{taken_all, taken_number}
use Rattle.dvd_commands.specs.Master.{IsMastered, bytes_of_block, master_units}
use Rattle.dvd_commands.proofs.PlanBytes.{start-all, start-blocks}

module _ (layout : Layout) (zones : Zones) (cpr image : List ℕ) where
  -- no block is the last
  never_last : (k : ℕ) (before : List (List ℕ)) (own : List ℕ) (steps : List Step) → IsMastered layout zones cpr k own steps Last → ⊥
  never_last k before own steps does = let no : Last ≡ Good = does.good in cc

  -- where mastering has come to a block of image sectors, it has taken those before its first, in order
  pub in_order : (k : ℕ) (entry : BlockPlan) (a : Outcome) → slice_get (plan_of layout zones) k ≡ Some entry → IsImage entry.content
      → IsOutcome (first k (master_units layout zones cpr)) image a → a.end ≡ Done → length a.taken ≡ 2048 * image_from entry.content
  in_order k entry a is_there is_image runs done =
      let within = slice_get_within (plan_of layout zones) k entry is_there in
      taken_number (first k (master_units layout zones cpr)) (bytes_of_block layout zones) (λ k bytes. refl) never_last image a refl runs done
      ∙ start-blocks layout zones k (omega arith)
      ∙ ap (λ n. 2048 * n) (plan_of-in_order layout zones k entry is_there is_image)

  -- the blocks are units of given sizes, and none is bad
  all_good : AreGood (master_units layout zones cpr) (bytes_of_block layout zones) (λ k own out lines. Unit {0})
  all_good = record {
    begins = λ k bytes. refl;
    opens = refl;
    does = λ before own steps kind lt unit. (unit.does.good, tt);
    closes = λ before steps none. none;
    asks = refl;
  }

  -- mastering is done exactly where the image has as many bytes as the disk has sectors for
  pub whole : (a : Outcome) → IsOutcome (master_units layout zones cpr) image a → IsFaultless a.end
      → (a.end ≡ Done → length image ≡ 2048 * total_sectors layout) × (length image ≡ 2048 * total_sectors layout → a.end ≡ Done)
  whole a runs none =
      let units = master_units layout zones cpr in
      let size = bytes_of_block layout zones in (
        λ done. ap length (sym (taken_all units size (λ k bytes. refl) never_last image a refl refl runs done))
            ∙ taken_number units size (λ k bytes. refl) never_last image a refl runs done ∙ start-all layout zones,
        λ long. (over units size (λ k own out lines. Unit {0}) all_good image a runs none (long ∙ sym (start-all layout zones))).end,
      )
