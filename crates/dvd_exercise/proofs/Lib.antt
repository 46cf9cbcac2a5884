-- Why the contracts hold: lemmas on sectors drawn from a seed, and damage within the bound of two-pass decoding.
pub mod Bound
pub mod Changed
pub mod Burdens
pub mod Draws
pub mod OnlyOne
pub mod Rows
pub mod SomeHurt
pub mod Whole
pub mod Widths
pub mod Works
