-- What the contracts speak of: a CD-ROM sector, what is wrong with one, and how it is repaired.
pub mod Bits
pub mod Causes
pub mod Edc
pub mod Examples
pub mod Inner
pub mod Laws
pub mod Repair
pub mod Sector
pub mod Words
