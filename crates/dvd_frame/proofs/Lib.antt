-- Why the contracts hold: lemmas on data frames, their IDs and their checks, and how their Main Data are scrambled.
pub mod BitLists
pub mod Division
pub mod Sequences
pub mod Recurrence
pub mod KeyWords
pub mod Masking
pub mod FrameParts
pub mod IdChecks
pub mod ReadBack
pub mod Multiples
pub mod WordDivision
pub mod ByteFolds
pub mod ChunkFolds
pub mod Quotients
