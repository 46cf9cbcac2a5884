-- The proof of `Block::put_frame` in src/block.rt.
use Rattle.std.proofs.Common.{◌≡◌, ℕ, ◌-◌, ◌+◌, ◌*◌, List, length, take, drop, arith}
use Rattle.dvd_block.proofs.RowParts.{PrefixesSet, frame_held, other_rows_kept, inner_parity_kept}
use Rattle.dvd_block.proofs.block.Block.put_frame.Goals as goal

module _ (c : goal.After-self-1) where
  -- how many rows a frame has
  abbrev k : ℕ
  k = 12 * c.args.f + 12 - 12 * c.args.f

  -- the rows that are lent
  abbrev rows : List (List ℕ)
  rows = c.rows_mut.result.now

  -- they are 208
  height : length rows ≡ 208
  height = c.rows_mut.ensures.size

  -- twelve are written
  size : length c.put_rows.new.rows ≡ 12
  size = omega arith

  -- with the frame in their fronts
  prefixes : PrefixesSet c.args.frame.now (take k (drop (12 * c.args.f) rows)) c.put_rows.new.rows
  prefixes = record { size = size; each = λ q below. c.put_rows.ensures q (omega (arith, size)) }

pub returns-clause-frame : goal.returns-clause-frame
returns-clause-frame c =
    frame_held c.args.f (k c) c.args.self.now.lines.rows.len c.args.frame.now (rows c) c.put_rows.new.rows c.args.self.now.lines.rows.items
    c.requires (omega arith) (height c) c.args.self.now.lines.size c.told-frame (prefixes c)

pub returns-clause-other_rows : goal.returns-clause-other_rows
returns-clause-other_rows c =
    other_rows_kept c.args.f (k c) c.args.self.now.lines.rows.len c.args.frame.now (rows c) c.put_rows.new.rows c.args.self.now.lines.rows.items
    c.requires (omega arith) (height c) c.args.self.now.lines.size (size c) c.rows_mut.ensures.rows

pub returns-clause-inner_parity : goal.returns-clause-inner_parity
returns-clause-inner_parity c =
    inner_parity_kept c.args.f (k c) c.args.self.now.lines.rows.len c.args.frame.now (rows c) c.put_rows.new.rows c.args.self.now.lines.rows.items
    c.requires (omega arith) (height c) c.args.self.now.lines.size c.told-frame (prefixes c) c.rows_mut.ensures.rows
