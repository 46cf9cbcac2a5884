-- What the contracts speak of: what two passes find of a captured block, and the checks of its frames.
pub mod Calls
pub mod Inner
pub mod Laws
pub mod Parts
