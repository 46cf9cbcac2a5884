-- Why the contracts hold: lemmas on mark bits and on spans.
pub mod BitLemmas
pub mod CaptureLemmas
pub mod FrameLemmas
pub mod MarkLemmas
pub mod SpanLemmas
