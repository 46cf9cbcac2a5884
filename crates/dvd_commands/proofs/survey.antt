-- Why the contracts of `survey` hold: its blocks.
pub mod Blocks
pub mod Done
pub mod Facts
