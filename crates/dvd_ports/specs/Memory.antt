-- What the contracts see of a source and of a sink in memory.
use Rattle.std.specs.Prelude.{ℕ, Bool, List, None, Some}
use Rattle.dvd_ports.specs.Seen.{Seen}

-- The bytes given so far, those left, the most bytes that a call gives, the numbers of the calls that fail, the number of the next call,
-- how often a call failed and how often one met the end, and whether the last did either. Only calls into a buffer that
-- isn't empty count.
pub record SourceState : Type 0 where
  pub given : List ℕ
  pub left : List ℕ
  pub step : ℕ
  pub fails : List ℕ
  pub calls : ℕ
  pub faults : ℕ
  pub ends : ℕ
  pub stopped : Bool

-- The bytes accepted, the number of bytes that there is room for, and the rest as for a source; a sink has no end.
pub record SinkState : Type 0 where
  pub held : List ℕ
  pub room : ℕ
  pub step : ℕ
  pub fails : List ℕ
  pub calls : ℕ
  pub faults : ℕ
  pub stopped : Bool

-- The state of a source over a slice, which never fails: the bytes given so far, those left, how often a call met the
-- end, and whether the last did.
pub record SliceState : Type 0 where
  pub given : List ℕ
  pub left : List ℕ
  pub ends : ℕ
  pub stopped : Bool

-- what is seen of a source: what it gave, and all that it has left
abbrev pub source_seen : SourceState → Seen
source_seen s = record { bytes = record { moved = s.given; left = Some s.left }; faults = s.faults; ends = s.ends; stopped = s.stopped }

-- what is seen of a sink: all bytes that it holds
abbrev pub sink_seen : SinkState → Seen
sink_seen s = record { bytes = record { moved = s.held; left = None }; faults = s.faults; ends = 0; stopped = s.stopped }

-- what is seen of a source over a slice
abbrev pub slice_seen : SliceState → Seen
slice_seen s = record { bytes = record { moved = s.given; left = Some s.left }; faults = 0; ends = s.ends; stopped = s.stopped }
