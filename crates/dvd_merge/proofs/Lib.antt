-- Why the contracts hold: lemmas on what captures know of the places of a block, and their join.
pub mod Bits
pub mod Costs
pub mod Lattice
pub mod MergeTables
pub mod PlaceLanes
pub mod Places
pub mod Records
pub mod Reread
pub mod Rows
pub mod Tables
pub mod Texts
