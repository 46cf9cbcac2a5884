-- Why the contracts hold: lemmas on rows and columns, on the lanes of vectors, and on values and parity in them.
pub mod ColumnLemmas
pub mod FactorLemmas
pub mod FifthLemmas
pub mod LaneLemmas
pub mod MatrixLemmas
pub mod Nibbles
pub mod ParityLemmas
pub mod RowLemmas
pub mod ThirdLemmas
pub mod Tiles
