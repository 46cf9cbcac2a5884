-- What only the private functions of this crate promise.
pub mod Exercising
pub mod Making
pub mod Opened
pub mod Performing
pub mod Workers
