-- The proof of `group_cells` in src/parity.rt.
use Rattle.std.proofs.Common.{◌≡◌, ◌+◌, ◌-◌, ◌++◌, ℕ, List, length, get_or, take, ap, subst, sym, ◌∙◌, arith}
use Rattle.std.proofs.lemmas.List.{length-take-le, take-map}
use Rattle.coding.specs.Words.{IsCodeword}
use Rattle.dvd_block.specs.Buffers.{lines_rows}
use Rattle.coding.specs.Product.{line, column}
use Rattle.dvd_block.proofs.parity.group_cells.Goals as goal

-- there are 208 rows, and so 192 upper ones
upper_height : (rows : List (List ℕ)) → length rows ≡ 208 → length (take 192 rows) ≡ 192
upper_height rows height = length-take-le 192 rows (omega arith)

pub slice_bounds-parity_of_columns-end : goal.slice_bounds-parity_of_columns-end
slice_bounds-parity_of_columns-end c = sym (upper_height c.rows.result.now c.rows.ensures.size)

pub parity_of_columns-parity-requires-clause-rows : goal.parity_of_columns-parity-requires-clause-rows
parity_of_columns-parity-requires-clause-rows c = upper_height c.rows.result.now c.rows.ensures.size

pub returns-clause-encoded : goal.returns-clause-encoded
returns-clause-encoded c = λ i below.
    let rows = c.rows.result.now in
    let left = c.min-left.result in
    let n = c.args.start - left + i in
    let here : left + n ≡ c.args.start + i = omega (arith, c.min-left.ensures) in
    let upper : column (take 192 rows) (left + n) ≡ take 192 (column (lines_rows c.args.lines.now) (c.args.start + i)) =
    ap (column (take 192 rows)) here
    ∙ sym (take-map (λ (row : List ℕ). get_or row (c.args.start + i) 0) 192 rows)
    ∙ ap (λ (all : List (List ℕ)). take 192 (column all (c.args.start + i))) c.rows.ensures.rows in
    subst (λ (word : List ℕ). IsCodeword 208 16 (word ++ line c.loop-k.cells i)) upper
    (subst (λ (cell : List ℕ). IsCodeword 208 16 (column (take 192 rows) (left + n) ++ cell)) (sym (c.loop-k.invariant i (omega arith)))
    (c.parity_of_columns-parity.ensures.encoded n (omega (arith, c.min-left.ensures))).codeword)
