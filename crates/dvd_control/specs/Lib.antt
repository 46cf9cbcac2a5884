-- What the contracts speak of: the physical format of a disk, and the Main Data of blocks without an image.
pub mod Format
pub mod Laws
pub mod MainData
