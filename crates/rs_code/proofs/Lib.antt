-- Why the contracts hold: lemmas on Reed-Solomon codes, their generators, syndromes and distances.
pub mod Chunks
pub mod Codewords
pub mod Distance
pub mod Generator
pub mod Multiples
pub mod PowerSums
pub mod Registers
pub mod Remainders
pub mod Ring
pub mod Syndromes
pub mod Terms
pub mod Values
pub mod Words
