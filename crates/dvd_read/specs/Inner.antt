-- What only the private functions of this crate promise. No public contract and no law cites these pages.
pub mod Found
pub mod Saved
pub mod Standing
