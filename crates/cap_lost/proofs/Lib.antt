-- Why the contracts hold: lines out of bytes, and pieces of a text that is written.
pub mod Comings
pub mod LineEnds
pub mod LossLemmas
pub mod Pieces
pub mod Readings
pub mod SaidLemmas
pub mod WrittenBefore
