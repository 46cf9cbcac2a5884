-- What the contracts see of a source or a sink.
use Rattle.std.specs.Prelude.{ℕ, Bool}
use Rattle.dvd_ports.specs.Bytes.{Bytes}

-- The bytes that its calls have moved, and for a source those that are left; how often it has failed; how often its
-- input has ended; and whether its last call did either. A call with an empty buffer or piece has nothing to do and
-- doesn't count.
pub record Seen : Type 0 where
  pub bytes : Bytes
  pub faults : ℕ
  pub ends : ℕ
  pub stopped : Bool
