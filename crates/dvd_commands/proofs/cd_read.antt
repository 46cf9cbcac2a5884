-- Why the contracts of `cdread` hold: its sectors, and what is kept of those whose damage its codes can correct.
pub mod Facts
pub mod Kept
pub mod Sectors
