-- Why the contracts of `convert` hold: its blocks.
pub mod Blocks
pub mod Facts
