-- Why the contracts of `frames` and `cdmake` hold: what is made of a sector.
pub mod Done
pub mod Facts
