-- Why the contracts hold: lemmas on what is seen of sources and sinks, and what a call moves.
pub mod KnownLemmas
pub mod Moving
pub mod StopLemmas
