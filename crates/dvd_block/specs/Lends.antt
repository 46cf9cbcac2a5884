-- What the buffers of a block are after they were lent for writing.
use Rattle.std.specs.Prelude.{ℕ, List}
use Rattle.std.specs.Borrow.{Lends, MutBor, Fml, Array, u8}
use Rattle.std.specs.Vec.{with_items}
use Rattle.dvd_block.specs.declared.buffers.Lines.{Lines}
use Rattle.dvd_block.specs.declared.buffers.Cells.{Cells}
use Rattle.dvd_block.specs.declared.piece.Piece.{Piece}
use Rattle.dvd_block.specs.contracts.piece.Piece.{the_row as piece_row}
use Rattle.dvd_block.specs.contracts.buffers.Lines.{the_row as lines_row}
use Rattle.dvd_block.specs.contracts.buffers.Cells.{the_row as cells_row}

-- other rows, as many as before
abbrev pub with_rows : Lines → List (List ℕ) → Lines
with_rows lines rows = record { rows = with_items lines.rows rows; size = lines.size }

-- other cells, as many as before
abbrev pub with_cells : Cells → List (List ℕ) → Cells
with_cells cells all = record { cells = with_items cells.cells all; size = cells.size }

-- the rows of a block are lent for writing, and the block's buffer has them back, as many as before
abbrev pub LendsRows : MutBor Lines → MutBor (List (List ℕ)) → Fml
LendsRows lines rows = Lends lines_row (Array (Array u8 182) 0) lines rows (with_rows lines.now)

-- the cells of columns are lent for writing, and their buffer has them back, as many as before
abbrev pub LendsCells : MutBor Cells → MutBor (List (List ℕ)) → Fml
LendsCells cells all = Lends cells_row (Array (Array u8 16) 0) cells all (with_cells cells.now)

-- other bytes, as many as before
abbrev pub with_bytes : Piece → List ℕ → Piece
with_bytes piece bytes = record { bytes = with_items piece.bytes bytes; size = piece.size }

-- the bytes of a piece are lent for writing, and the piece has them back, as many as before
abbrev pub LendsPiece : MutBor Piece → MutBor (List ℕ) → Fml
LendsPiece piece bytes = Lends piece_row (Array u8 0) piece bytes (with_bytes piece.now)
