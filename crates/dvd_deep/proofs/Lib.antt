-- Why the contracts hold: lemmas on the rounds of iterated reading, and what a block is read as by them.
pub mod RowStep
pub mod ColumnStep
pub mod ColumnPut
pub mod MarksTaken
pub mod Searches
pub mod Mains
pub mod Products
pub mod RoundOne
pub mod TrueBytes
pub mod Readings
