-- What the contracts are about: blocks of captures in turn, and what a loop over them does to its streams.
pub mod Blocks
pub mod Inner
pub mod Laws
pub mod Interleaved
