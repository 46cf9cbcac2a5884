-- What the contracts are about: the rules of a map, and what it says of each byte.
pub mod Fields
pub mod Inner
pub mod Lines
pub mod Map
pub mod Numbers
pub mod Spans
