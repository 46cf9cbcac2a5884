-- What the contracts are about: what a run does, and what it promises.
pub mod Headline
pub mod Laws
pub mod Lines
pub mod Promises
pub mod Statuses
