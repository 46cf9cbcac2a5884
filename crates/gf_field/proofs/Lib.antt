-- Why the contracts hold: lemmas on the field of 256 elements, its words and their codes, and on division of lists of
-- bits.
pub mod BitDivision
pub mod Tables
pub mod FieldLaws
pub mod Logarithms
