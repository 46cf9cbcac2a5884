-- Why the contracts of `exercise` hold: its blocks, what is counted of them, and its units.
pub mod Blocks
pub mod Facts
pub mod Runs
pub mod Trials
pub mod UnitCommand
