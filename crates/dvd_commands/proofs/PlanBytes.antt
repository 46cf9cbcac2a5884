-- Where the bytes of the image are that the blocks of a plan hold.
use Rattle.std.proofs.Common.{◌≡◌, ◌∙◌, ℕ, zero, suc, ◌*◌, ◌≤◌, List, [], ◌∷◌, length, get_or, take, slice_get, ap, sym, add-one, arith}
use Rattle.std.proofs.lemmas.List.{take_all}
use Rattle.std.proofs.lemmas.List.Sums.{sum_by_more}
use Rattle.std.proofs.lemmas.Option.{slice_get-get_or}
use Rattle.dvd_layout.specs.Place.{image_before, image_sectors, total_sectors}
use Rattle.dvd_layout.specs.Plan.{plan_of}
use Rattle.dvd_layout.specs.declared.entry.BlockPlan.{BlockPlan}
use Rattle.dvd_layout.specs.declared.layout.Layout.{Layout}
use Rattle.dvd_layout.specs.declared.layout.Zones.{Zones}
use Rattle.dvd_layout.proofs.InOrder.{plan_of-whole}
use Rattle.dvd_loop.proofs.Over.{start, start-suc, start-zero}
use Rattle.dvd_commands.specs.Master.{bytes_of_block, bytes_of_entry}

-- the bytes before block k are those of the image sectors before it
start-entries : (layout : Layout) (entries : List BlockPlan) (k : ℕ) → k ≤ length entries
    → start (λ j. bytes_of_entry layout (slice_get entries j)) k ≡ 2048 * image_before layout (take k entries)
start-entries layout entries zero within = start-zero (λ j. bytes_of_entry layout (slice_get entries j))
start-entries layout [] (suc k) within = absurd (omega arith)
start-entries layout (entry ∷ entries) (suc k) within =
    let all = entry ∷ entries in
    let size : ℕ → ℕ = λ j. bytes_of_entry layout (slice_get all j) in
    let own = get_or all k entry in
    let more = ap (λ n. image_before layout (take n all)) (sym (add-one k)) ∙ sum_by_more (λ (e : BlockPlan). image_sectors layout e.content) all k entry (omega arith) in
    let here : size k ≡ 2048 * image_sectors layout own.content = ap (bytes_of_entry layout) (slice_get-get_or all k entry (omega arith)) in
    omega (arith, start-suc size k, start-entries layout all k (omega arith), here, more)

module _ (layout : Layout) (zones : Zones) where
  -- the same for the blocks of a disk: before block k come 2,048 bytes for each image sector before it
  pub start-blocks : (k : ℕ) → k ≤ length (plan_of layout zones)
      → start (bytes_of_block layout zones) k ≡ 2048 * image_before layout (take k (plan_of layout zones))
  start-blocks k within = start-entries layout (plan_of layout zones) k within

  -- all blocks hold the bytes of the whole image
  pub start-all : start (bytes_of_block layout zones) (length (plan_of layout zones)) ≡ 2048 * total_sectors layout
  start-all =
      start-blocks (length (plan_of layout zones)) (omega arith)
      ∙ ap (λ entries. 2048 * image_before layout entries) (take_all (length (plan_of layout zones)) (plan_of layout zones) (omega arith))
      ∙ ap (λ n. 2048 * n) (plan_of-whole layout zones)
