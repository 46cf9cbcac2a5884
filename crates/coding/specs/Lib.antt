-- Coding theory and ECC blocks, as definitions alone: bits and their division, the field, its words and codes,
-- erasures, the codeword near a word, distance, rows and columns, the product code, the order of recording, two passes
-- and their bound.
pub mod BitDivision
pub mod Bits
pub mod Distance
pub mod Examples
pub mod Field
pub mod Filling
pub mod Found
pub mod Nearest
pub mod Product
pub mod Recording
pub mod Rows
pub mod TwoPass
pub mod Within
pub mod Words
