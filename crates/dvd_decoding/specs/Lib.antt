-- What is read of a captured block, as definitions alone: its cause, its frames, its sectors, and what is salvaged of
-- it.
pub mod Causes
pub mod Frames
pub mod Made
pub mod Reading
pub mod Salvage
