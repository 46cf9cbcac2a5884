-- The proof of `outer_parity` in src/parity.rt.
use Rattle.std.proofs.Common.{◌≡◌, ℕ, List, ◌++◌, length, take, drop, sym, ◌∙◌, subst, arith}
use Rattle.coding.specs.Words.{IsCodeword}
use Rattle.dvd_block.specs.Buffers.{lines_rows}
use Rattle.coding.specs.Product.{line, column}
use Rattle.dvd_block.proofs.RowParts.{lent_whole}
use Rattle.dvd_par.proofs.parity.outer_parity.Goals as goal

pub returns : goal.returns
returns g c = λ j within.
    let cells : List (List ℕ) = c.cell_pieces.new.cells in
    let size : length cells ≡ 182 = omega (arith, c.all_mut.ensures.size) in
    let whole : take c.args.cells.now.cells.len (cells ++ drop (length cells) c.args.cells.now.cells.items) ≡ cells =
    lent_whole c.args.cells.now.cells.len c.args.cells.now.cells.items cells (size ∙ sym c.args.cells.now.size) in
    subst (λ (all : List (List ℕ)). IsCodeword 208 16 (take 192 (column (lines_rows c.args.lines.now) j) ++ line all j)) (sym whole)
    (c.cell_pieces.ensures j (omega arith))
