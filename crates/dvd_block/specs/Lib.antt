-- What the contracts speak of: ECC blocks, their buffers, and the order in which their rows are recorded.
pub mod Buffers
pub mod Laws
pub mod Lends
