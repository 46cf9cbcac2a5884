-- Why the contracts of `merge` hold: the captures of a block.
pub mod Captures
pub mod Facts
