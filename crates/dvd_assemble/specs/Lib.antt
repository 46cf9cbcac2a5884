-- What the contracts speak of: scattered recording frames, the blocks that they name, and what they say of these.
pub mod Assembled
pub mod Frames
pub mod Home
pub mod Laws
pub mod Mastered
pub mod Shelves
pub mod Works
