-- What every call of a source or a sink does, by what is seen of the object before it and after it.
use Rattle.std.specs.Prelude.{ℕ, ◌≡◌, ◌<◌, false, List, length, Result, IfOk, OnErr}
use Rattle.std.specs.Io.{ReadsAtMost, WritesAtMost}
use Rattle.dvd_ports.specs.Bytes.{ReadConsumes, WriteAppends}
use Rattle.dvd_ports.specs.Causes.{HasFailed, HasGoneOn, HasMetEnd}
use Rattle.dvd_ports.specs.Seen.{Seen}

-- The call moved bytes: the counts stay, and the call neither failed nor met the end.
pub record HasMoved (before now : Seen) : Type 0 where
  pub goes_on : HasGoneOn before now
  pub last : now.stopped ≡ false

-- A read moved bytes to the beginning of the buffer, the first of those that were left. None into a buffer with room is
-- the end of the input. A read that failed moved none and lost none.
pub record IsRead {E : Type 0} (before now : Seen) (result : Result ℕ E) (buf : List ℕ) : Type 0 where
  pub bound : ReadsAtMost result buf
  pub bytes : ReadConsumes before.bytes now.bytes result buf
  pub moved : IfOk result (λ count. 0 < count → HasMoved before now)
  pub ended : IfOk result (λ count. count ≡ 0 → 0 < length buf → HasMetEnd before now)
  pub failed : OnErr result (HasFailed before now)

-- A write accepted bytes from the beginning of the buffer, at least one if there is one. They follow those accepted
-- before. A write that failed accepted none.
pub record IsWrite {E : Type 0} (before now : Seen) (result : Result ℕ E) (buf : List ℕ) : Type 0 where
  pub bound : WritesAtMost result buf
  pub progress : 0 < length buf → IfOk result (λ count. 0 < count)
  pub bytes : WriteAppends before.bytes now.bytes result buf
  pub moved : IfOk result (λ count. 0 < count → HasMoved before now)
  pub failed : OnErr result (HasFailed before now)
