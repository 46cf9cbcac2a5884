-- What the contracts speak of: the statuses, and what the calls leave in the buffers, as functions of the definitions.
pub mod Blocks
pub mod Frames
pub mod General
pub mod Lists
pub mod Reading
pub mod Sectors
pub mod Words
