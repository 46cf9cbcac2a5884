-- Why the contracts hold: lemmas on scattered recording frames, the blocks that they name, and what they say of these.
pub mod Assembling
pub mod Homes
pub mod Joining
pub mod Mastered
pub mod Reading
pub mod Settling
pub mod Tables
