-- The proof of `Block::add_parity` in src/block.rt.
use Rattle.std.proofs.Common.{◌≡◌, ℕ, List, ◌++◌, length, take, drop, sym, ◌∙◌, subst}
use Rattle.coding.specs.Product.{IsParityAdded}
use Rattle.dvd_block.proofs.RowParts.{lent_whole}
use Rattle.dvd_block.proofs.block.Block.add_parity.Goals as goal

module _ (c : goal.After-clear) where
  -- the rows with their parity
  abbrev rows : List (List ℕ)
  rows = c.fill_parity.new.rows

  -- the rows that were lent are those of the block
  back : take c.args.self.now.lines.rows.len (rows ++ drop (length rows) c.args.self.now.lines.rows.items) ≡ rows
  back = lent_whole c.args.self.now.lines.rows.len c.args.self.now.lines.rows.items rows (c.fill_parity.ensures.size ∙ sym c.args.self.now.lines.size)

pub returns-clause-parity : goal.returns-clause-parity
returns-clause-parity c =
    subst (λ (old : List (List ℕ)). IsParityAdded old (take c.args.self.now.lines.rows.len (rows c ++ drop (length (rows c)) c.args.self.now.lines.rows.items)))
    c.rows_mut.ensures.rows (subst (IsParityAdded c.rows_mut.result.now) (sym (back c)) c.fill_parity.ensures.added)
