-- What the contracts speak of: what is seen of sources and sinks, and what a call moves.
pub mod Adapters
pub mod Bytes
pub mod Calls
pub mod Causes
pub mod Memory
pub mod Seen
pub mod Whole
