-- Why the contracts of `deep` hold: its blocks.
pub mod Blocks
pub mod Done
pub mod Facts
