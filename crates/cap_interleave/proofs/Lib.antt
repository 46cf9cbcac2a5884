-- Why the contracts hold: lemmas on blocks that are marked whole, on what came of the blocks of a unit, and on the
-- loop.
pub mod BlockLemmas
pub mod HeldLemmas
pub mod LoopLemmas
pub mod OrderLemmas
pub mod ReadLemmas
pub mod StepLemmas
pub mod UnitLemmas
pub mod WholeLemmas
