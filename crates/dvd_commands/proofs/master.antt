-- Why the contracts of `master` hold: its blocks, their Main Data, and what they take of the image.
pub mod Blocks
pub mod Done
pub mod Facts
pub mod FormatBytes
pub mod ImageTaken
