-- The proof of `add_parity_par` in src/parity.rt.
use Rattle.std.proofs.Common.{ℕ, List, arith}
use Rattle.dvd_block.specs.Buffers.{lines_rows, cells_all, block_rows}
use Rattle.dvd_block.proofs.Filling.{IsFilled, parity_added}
use Rattle.dvd_par.proofs.parity.add_parity_par.Given as given
use Rattle.dvd_par.proofs.parity.add_parity_par.Goals as goal

module _ (g : given.Over) (c : goal.After-clear g) where
  abbrev old : List (List ℕ)
  old = block_rows c.args.block.now

  abbrev upper : List (List ℕ)
  upper = lines_rows c.inner_parity.new.lines

  abbrev cells : List (List ℕ)
  cells = cells_all c.outer_parity.new.cells

  abbrev block : List (List ℕ)
  block = block_rows c.place_parity.new.self

  filled : IsFilled old upper cells block
  filled = record {
    height = omega (arith, c.place_parity.new.self.lines.rows.ok.0, c.place_parity.new.self.lines.size);
    upper_height = omega (arith, c.inner_parity.new.lines.rows.ok.0, c.inner_parity.new.lines.size);
    kept = c.place_parity.ensures.rows_kept;
    rows = c.inner_parity.ensures;
    columns = c.outer_parity.ensures;
    placed = c.place_parity.ensures.placed;
    sizes = c.place_parity.ensures.sizes;
  }

pub returns-clause-parity : goal.returns-clause-parity
returns-clause-parity g c = parity_added (old g c) (upper g c) (cells g c) (block g c) (filled g c)
