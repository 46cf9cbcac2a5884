-- What the contracts speak of: lists of rows, by row and by column.
pub mod Inner
