-- What private functions promise, here and in rs_decode. No public contract cites these pages.
pub mod Lanes
pub mod Parity
pub mod Tables
pub mod Thirds
pub mod Transposing
