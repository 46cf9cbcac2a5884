-- Why the contracts hold: the first line of a text and those after it.
pub mod FirstLine
