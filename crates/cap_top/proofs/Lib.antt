-- Why the contracts hold: a loop and its closing line are a run.
pub mod MarkLemmas
