-- What the contracts are about: the lines of a report, what they say of the image together, and its map.
pub mod Blocks
pub mod Closings
pub mod Prefixes
pub mod Inner
pub mod Laws
pub mod Lost
pub mod Map
pub mod Reads
pub mod Report
