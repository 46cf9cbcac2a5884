-- Why the contracts of `assemble` hold: its frames, and those that were captured of mastered blocks.
pub mod CapturedFrames
pub mod Facts
pub mod Frames
