-- What the contracts are about: marks of the bytes that aren't rescued.
pub mod Capture
pub mod Frames
pub mod Marks
pub mod Walk
