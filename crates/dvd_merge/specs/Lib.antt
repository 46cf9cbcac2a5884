-- What the contracts speak of: what captures know of the places of a block, and their join.
pub mod Agreeing
pub mod Inner
pub mod Join
pub mod Laws
pub mod MarkedText
pub mod Merges
pub mod Planes
