-- Why the contracts hold: lemmas on the lines of a report, and the survey of a disk.
pub mod Answered
pub mod Hexadecimal
pub mod RowCounts
pub mod Sums
