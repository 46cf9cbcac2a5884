-- What the contracts speak of: captured ECC blocks, the forms in which they are stored, and what two passes determine
-- of them.
pub mod Answers
pub mod Captured
pub mod Fetching
pub mod Header
pub mod Inner
pub mod Kept
pub mod Laws
pub mod Lends
pub mod Listed
pub mod Listing
pub mod MarkBits
pub mod Parts
pub mod Rule
pub mod Works
