-- What the contracts are about: the lines of a survey, and the result of all of them.
pub mod Lines
pub mod Numbers
pub mod Survey
pub mod Totals
