-- What the contracts speak of: words with errors and marked places, the codewords near them, and registers that
-- generate lists.
pub mod Errors
pub mod Examples
pub mod Inner
pub mod Laws
pub mod Patches
pub mod Register
