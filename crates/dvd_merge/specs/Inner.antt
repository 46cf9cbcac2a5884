-- What private functions promise.
pub mod Rows
