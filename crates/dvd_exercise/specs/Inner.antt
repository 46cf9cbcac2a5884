-- What only the private functions of this crate promise. No public contract and no law cites this page.
pub mod Kept
