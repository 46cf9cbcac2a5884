-- What the contracts are about: the units of an input, the outcome of a loop over them, and how it ends.
pub mod Laws
pub mod Machine
pub mod Streams
pub mod UnitCommand
