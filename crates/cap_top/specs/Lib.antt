-- What the contracts are about: a run of each command, and how it ends.
pub mod Causes
pub mod Closing
pub mod Draw
pub mod Interleave
pub mod Lost
pub mod Mark
pub mod Statuses
