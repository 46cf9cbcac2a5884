-- What the contracts speak of: Reed-Solomon codes, their generators, syndromes and distances.
pub mod Examples
pub mod Inner
pub mod Laws
pub mod Polynomials
pub mod Syndromes
