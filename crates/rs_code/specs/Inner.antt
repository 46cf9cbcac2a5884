-- What private functions promise, here and in the crates that depend on this one. No public contract and no law cites
-- these pages.
pub mod Polynomials
pub mod PowerSums
pub mod Registers
