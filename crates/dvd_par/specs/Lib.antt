-- How a pass is cut. What several workers do of a block is said by the crates below.
pub mod Cutting
