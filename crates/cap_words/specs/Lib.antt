-- What the contracts are about: the arguments of the command line, and the settings that they ask for.
pub mod Apps
pub mod Draw
pub mod Interleave
pub mod Lost
pub mod Mark
pub mod Reading
