-- Why the contracts of `recover` hold: its blocks, what is saved of them, and a whole capture.
pub mod Blocks
pub mod Capture
pub mod Done
pub mod Facts
pub mod GoodFrames
pub mod Rescues
