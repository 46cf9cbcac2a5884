-- What each iteration of the loop in `copy_columns` keeps.
use Rattle.std.proofs.Common.{◌≡◌, ℕ, ◌+◌, ◌*◌, ◌<◌, length, get_or}
use Rattle.coding.specs.Product.{column}
use Rattle.dvd_capture.specs.declared.parts.ColumnAnswer.{ColumnAnswer}
use Rattle.dvd_read.specs.Parts.{answer_bytes}
use Rattle.dvd_read.proofs.copying.copy_columns.Given as goal

-- the columns of the tiles that are done are copied
abbrev pub invariant-loop-tile : goal.invariant-loop-tile
invariant-loop-tile l = record {
  size : length l.piece ≡ length l.initial.piece;
  own : (k : ℕ) (d : ColumnAnswer) → k < 16 * l.tile → k < length l.piece → (get_or l.piece k d).bytes ≡ column (answer_bytes l.answers) (l.start + k);
}
