-- The proof of `cell_pieces` in src/parity.rt.
use Rattle.std.proofs.Common.{◌+◌, ◌<◌, ◌++◌, ℕ, List, [], length, take, subst, arith}
use Rattle.coding.specs.Words.{IsCodeword}
use Rattle.dvd_block.specs.Buffers.{lines_rows}
use Rattle.coding.specs.Product.{column, line}
use Rattle.dvd_par.proofs.parity.cell_pieces.Goals as goal

pub returns : goal.returns
returns g c = λ j within.
    let rows : List (List ℕ) = lines_rows c.args.lines.now in
    let said = (c.for_each_piece.ensures.pieces j [] (omega arith)).1 in
    let inside : said.offset < length said.after_call.now = omega (arith, said.call.1, said.offset_in_chunk) in
    subst (λ n. IsCodeword 208 16 (take 192 (column rows n) ++ line c.for_each_piece.new.items j))
    {x = said.start + said.offset} (omega (arith, said.start_plus_offset))
    (subst (λ (cell : List ℕ). IsCodeword 208 16 (take 192 (column rows (said.start + said.offset)) ++ cell)) said.new_element
    (said.call.0 said.offset inside))
