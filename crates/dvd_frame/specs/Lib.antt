-- What the contracts speak of: data frames, their IDs and their checks, and how their Main Data are scrambled.
pub mod Edc
pub mod Examples
pub mod Frame
pub mod Id
pub mod Inner
pub mod Scrambling
