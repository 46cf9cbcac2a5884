-- Why the contracts of `info` hold: its blocks, and which of them answers.
pub mod Blocks
pub mod Done
pub mod Facts
pub mod Found
