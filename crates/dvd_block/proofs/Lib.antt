-- Why the contracts hold: lemmas on ECC blocks, their buffers, and the order in which their rows are recorded.
pub mod Taken
pub mod RowParts
pub mod Columns
pub mod Linear
pub mod Tested
pub mod Filling
pub mod Recorded
pub mod OneBlock
