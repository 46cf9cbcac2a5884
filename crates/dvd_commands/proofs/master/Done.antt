-- What `master` does for a block is one thing, and it does something for each.
use Rattle.std.proofs.Common.{◌≡◌, ℕ, List, ◌∷◌, [], length, refl, ap, sym, subst, ◌∙◌, ◌<◌}
use Rattle.dvd_block.proofs.OneBlock.{one_block_at_most, some_block}
use Rattle.coding.specs.Product.{IsBlockOf, line}
use Rattle.coding.specs.Recording.{recording}
use Rattle.dvd_layout.specs.Plan.{plan_of}
use Rattle.dvd_layout.specs.declared.layout.Layout.{Layout}
use Rattle.dvd_layout.specs.declared.layout.Zones.{Zones}
use Rattle.dvd_commands.proofs.PlanEntries.{one_entry, some_entry}
use Rattle.dvd_loop.specs.Machine.Step.{Write}
use Rattle.dvd_commands.specs.Master.{IsMastered, filled_block, frames_of, bytes_of_block, bytes_of_entry, cpr_in, main_for}
use Rattle.dvd_loop.specs.declared.ends.UnitKind.TheVariants.{Good}
use Rattle.dvd_commands.proofs.BlockFrames.{line-frames_of}
use Rattle.dvd_commands.proofs.master.FormatBytes.{bytes-cpr, bytes-filled_block, bytes-main_for}
use Rattle.dvd_commands.proofs.FrameBytes.{HasBytes, bytes-frame}
use Rattle.dvd_commands.proofs.OneThing.{MayOne}
use Rattle.dvd_commands.proofs.SomeThing.{MayEach}

-- The sixteen frames of a block have one block at most.
pub mastered_is_one : (layout : Layout) (zones : Zones) (cpr : List ℕ) (k : ℕ) (own : List ℕ) → MayOne (IsMastered layout zones cpr k own)
mastered_is_one layout zones cpr k own steps others kind other p q =
    let entry : p.entry ≡ q.entry = one_entry (plan_of layout zones) k p.entry q.entry p.is_there q.is_there in
    let block : p.block ≡ q.block =
    one_block_at_most (frames_of layout q.entry cpr (filled_block own)) p.block q.block (subst (λ e. IsBlockOf (frames_of layout e cpr (filled_block own)) p.block) entry p.is_block) q.is_block in
    (p.writes ∙ ap (λ b. Write (recording b) ∷ []) block ∙ sym q.writes, p.good ∙ sym q.good)

-- The sixteen frames of a block have a block.
pub mastered_some : (layout : Layout) (zones : Zones) (cpr : List ℕ) → HasBytes 6 cpr
    → MayEach (length (plan_of layout zones)) (bytes_of_block layout zones) (IsMastered layout zones cpr)
mastered_some layout zones cpr six k own within are =
    let some = some_entry (plan_of layout zones) k within in
    let entry = some.0 in
    let piece = bytes-filled_block layout entry.content own (subst (λ n. HasBytes n own) (ap (bytes_of_entry layout) some.1) are) in
    let frame : (f : ℕ) → f < 16 → HasBytes 2064 (line (frames_of layout entry cpr (filled_block own)) f) =
    λ f below.
    subst (HasBytes 2064) (sym (line-frames_of layout entry cpr (filled_block own) f below))
    (bytes-frame _ (cpr_in entry.area cpr) _ (main_for entry.content layout entry (filled_block own) f) (bytes-cpr entry.area cpr six)
    (bytes-main_for entry.content layout entry (filled_block own) f below piece)) in
    let block = some_block (frames_of layout entry cpr (filled_block own)) (λ f below. (frame f below).size) (λ f below. (frame f below).bytes) in (
      Write (recording block.0) ∷ [],
      Good,
      record { entry = entry; is_there = some.1; block = block.0; is_block = block.1; writes = refl; good = refl },
    )
