-- The proof of `copy_row` in src/lanes.rt.
use Rattle.std.proofs.Common.{◌≡◌, ◌∙◌, ◌*◌, ℕ, get_or, arith}
use Rattle.std.proofs.lemmas.Grind.{same_number_lists}
use Rattle.rs_lanes.proofs.ColumnLemmas.{group_more}
use Rattle.rs_lanes.proofs.lanes.copy_row.Goals as goal

pub loop-piece-preserved : goal.loop-piece-preserved
loop-piece-preserved c = record {
  size = omega (arith, c.store.ensures.size, c.loop-piece.invariant.size);
  copied = λ j below.
      group_more (λ (m : ℕ). get_or c.store.new.row m 0 ≡ get_or c.args.from.now m 0) (32 * c.loop-piece.piece)
      (λ m under. c.store.ensures.below m under ∙ c.loop-piece.invariant.copied m under)
      (λ k few. c.store.ensures.set k few ∙ c.load.ensures.each k few)
      j (omega arith);
}

pub returns : goal.returns
returns c =
    same_number_lists c.store-2.new.row c.args.from.now (omega (arith, c.store-2.ensures.size, c.loop-piece.invariant.size, c.told-from))
    (λ j within.
    group_more (λ (m : ℕ). get_or c.store-2.new.row m 0 ≡ get_or c.args.from.now m 0) 150
    (λ m under. c.store-2.ensures.below m under ∙ c.loop-piece.invariant.copied m (omega (arith, under)))
    (λ k few. c.store-2.ensures.set k few ∙ c.load-2.ensures.each k few)
    j (omega (arith, within, c.store-2.ensures.size, c.loop-piece.invariant.size)))
