-- What the contracts speak of: the rounds of iterated reading, and what a block is read as by them.
pub mod Deeps
pub mod Inner
pub mod Laws
pub mod Reading
pub mod Rounds
