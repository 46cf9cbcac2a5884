-- What the contracts are about: the arguments of the command line, and the settings that they ask for.
pub mod Inner
pub mod Reading
pub mod Settings
pub mod Table
pub mod Words
