-- What the contracts see of the buffers of a block.
use Rattle.std.specs.Prelude.{ℕ, List}
use Rattle.dvd_block.specs.declared.buffers.Lines.{Lines}
use Rattle.dvd_block.specs.declared.buffers.Cells.{Cells}
use Rattle.dvd_block.specs.declared.block.Block.{Block}
use Rattle.dvd_block.specs.declared.piece.Piece.{Piece}

-- the 208 rows
abbrev pub lines_rows : Lines → List (List ℕ)
lines_rows lines = lines.rows.items

-- the 182 cells
abbrev pub cells_all : Cells → List (List ℕ)
cells_all cells = cells.cells.items

-- the rows of a block
abbrev pub block_rows : Block → List (List ℕ)
block_rows block = block.lines.rows.items

-- the bytes of a piece
abbrev pub piece_bytes : Piece → List ℕ
piece_bytes piece = piece.bytes.items
