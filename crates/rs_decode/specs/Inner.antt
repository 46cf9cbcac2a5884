-- What only the private functions of this crate promise. No public contract and no law cites these pages.
pub mod Inverse
pub mod Locator
pub mod Places
pub mod Sums
