-- The proof of `Block::get_frame` in src/block.rt.
use Rattle.std.proofs.Common.{ℕ, ◌+◌, ◌-◌, ◌*◌, List, ap, sym, ◌∙◌, arith}
use Rattle.coding.specs.Product.{place, HoldsFrame}
use Rattle.dvd_block.proofs.RowParts.{lent_row}
use Rattle.dvd_block.proofs.block.Block.get_frame.Goals as goal

pub returns : goal.returns
unfolding HoldsFrame
returns c = λ q p within inside.
    sym (c.get_rows.ensures q p within inside
    ∙ lent_row (12 * c.args.f) (12 * c.args.f + 12 - 12 * c.args.f) c.rows.result.now q p (omega arith)
    ∙ ap (λ (rows : List (List ℕ)). place rows (12 * c.args.f + q) p) c.rows.ensures.rows)
