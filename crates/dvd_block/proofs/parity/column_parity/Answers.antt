-- The proof of `column_parity` in src/parity.rt.
use Rattle.std.proofs.Common.{◌≡◌, ℕ, ◌++◌, List, length, take, drop, subst, ap, sym, ◌∙◌, arith}
use Rattle.std.proofs.lemmas.List.{length-drop, take_all}
use Rattle.coding.specs.Words.{IsCodeword}
use Rattle.dvd_block.specs.Buffers.{lines_rows}
use Rattle.coding.specs.Product.{column}
use Rattle.dvd_block.proofs.Columns.{upper_end, column_encoded}
use Rattle.dvd_block.proofs.parity.column_parity.Goals as goal

pub returns : goal.returns
returns c =
    let rows : List (List ℕ) = lines_rows c.args.lines.now in
    let top : List ℕ = c.read_column.new.top in
    let size : length top ≡ 192 = omega arith in
    let copied : c.copy_from_slice.new.self ≡ drop 192 c.encode.new.word =
    c.copy_from_slice.ensures.after ∙ take_all 16 (drop 192 c.encode.new.word) (omega (arith, length-drop 192 c.encode.new.word)) in
    let is : top ≡ take 192 (column rows c.args.j) =
    upper_end c.rows.result.now c.args.j 192 top size (omega arith) c.read_column.ensures ∙ ap (λ (b : List (List ℕ)). take 192 (column b c.args.j)) c.rows.ensures.rows in
    subst (λ (cell : List ℕ). IsCodeword 208 16 (take 192 (column rows c.args.j) ++ cell)) (sym copied)
    (column_encoded (take 192 (column rows c.args.j)) top _ c.encode.new.word size is c.encode.ensures)
