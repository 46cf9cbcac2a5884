-- The proof of `Block::place_parity` in src/block.rt.
use Rattle.std.proofs.Common.{◌≡◌, ℕ, ◌-◌, List, length, get_or, take, ap, sym, ◌∙◌, arith}
use Rattle.coding.specs.Product.{place}
use Rattle.dvd_block.proofs.RowParts.{back_written, back_prefix}
use Rattle.dvd_block.proofs.block.Block.place_parity.Goals as goal

module _ (c : goal.After-self-1) where
  -- the rows that are lent
  abbrev rows : List (List ℕ)
  rows = c.rows_mut.result.now

  -- how many of them have outer parity
  abbrev k : ℕ
  k = length rows - 192

  -- they are 208
  height : length rows ≡ 208
  height = c.rows_mut.ensures.size

  -- as many are written
  size : length c.place_cells.new.rows ≡ k
  size = omega (arith, height)

  -- all rows of the block are lent
  number : length rows ≡ c.args.self.now.lines.rows.len
  number = height ∙ sym c.args.self.now.lines.size

pub returns-clause-placed : goal.returns-clause-placed
returns-clause-placed c = λ t j below within.
    ap (λ (row : List ℕ). get_or row j 0)
    (back_written 192 (k c) c.args.self.now.lines.rows.len (rows c) c.place_cells.new.rows c.args.self.now.lines.rows.items
    (omega (arith, height c)) (size c) (number c) t (omega (arith, height c)))
    ∙ c.place_cells.ensures.bytes t (omega (arith, size c, height c)) j within
    ∙ ap (λ (cells : List (List ℕ)). place cells j t) c.all.ensures.cells

pub returns-clause-sizes : goal.returns-clause-sizes
returns-clause-sizes c = λ t below.
    ap (λ (row : List ℕ). length row)
    (back_written 192 (k c) c.args.self.now.lines.rows.len (rows c) c.place_cells.new.rows c.args.self.now.lines.rows.items
    (omega (arith, height c)) (size c) (number c) t (omega (arith, height c)))
    ∙ c.place_cells.ensures.sizes t (omega (arith, size c, height c))

pub returns-clause-rows_kept : goal.returns-clause-rows_kept
returns-clause-rows_kept c =
    back_prefix 192 (k c) c.args.self.now.lines.rows.len (rows c) c.place_cells.new.rows c.args.self.now.lines.rows.items
    (omega (arith, height c)) (size c) (number c)
    ∙ ap (λ (all : List (List ℕ)). take 192 all) c.rows_mut.ensures.rows
