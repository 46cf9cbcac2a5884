-- Why the contracts hold: lemmas on the layout of a disk, its zones, and the plan of its blocks.
pub mod AtPlaces
pub mod Blocks
pub mod InOrder
pub mod LeadIn
pub mod NoFault
pub mod Ranges
pub mod SameLengths
