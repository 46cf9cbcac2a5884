-- Why the contracts hold: lemmas on the physical format of a disk, and the Main Data of blocks without an image.
pub mod LastSectors
pub mod LeadIns
pub mod RoundTrip
