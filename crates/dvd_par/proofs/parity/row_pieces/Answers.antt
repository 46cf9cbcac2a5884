-- The proof of `row_pieces` in src/parity.rt.
use Rattle.std.proofs.Common.{◌<◌, ℕ, List, [], length, take, subst, arith}
use Rattle.coding.specs.Words.{IsEncoded}
use Rattle.coding.specs.Product.{line}
use Rattle.dvd_par.proofs.parity.row_pieces.Goals as goal

pub returns : goal.returns
returns g c = λ i within.
    let said = (c.for_each_piece.ensures.pieces i [] (omega arith)).1 in
    let inside : said.offset < length said.after_call.now = omega (arith, said.call.1, said.offset_in_chunk) in
    subst (IsEncoded 182 10 (take 172 (line c.args.rows.now i))) said.new_element
    (subst (λ (row : List ℕ). IsEncoded 182 10 (take 172 row) (line said.after_call.now said.offset)) said.old_element
    (said.call.0 said.offset inside))
