-- What the contracts are about: the lines of a report, and the survey of a disk.
pub mod Examples
pub mod Inner
pub mod Lines
pub mod Setting
pub mod Survey
