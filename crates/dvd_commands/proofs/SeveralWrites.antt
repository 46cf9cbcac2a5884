-- What several writes leave, one after the other, where one of them fails.
use Rattle.std.proofs.Common.{ℕ, List, Result, Ok, Err}
use Rattle.std.specs.Prelude.{IsErr}
use Rattle.dvd_ports.specs.Causes.{HasFailed}
use Rattle.dvd_ports.specs.Seen.{Seen}
use Rattle.dvd_ports.specs.Whole.{AppendsPrefix, IsWritten}
use Rattle.dvd_ports.specs.declared.port.WriteFault.{WriteFault}

-- bytes of which the sink took a front
pub writes_failed : (answer : Result (Unit {0}) WriteFault) (bytes : List ℕ) (old new : Seen) → IsErr answer → AppendsPrefix old.bytes new.bytes bytes
    → HasFailed old new → IsWritten bytes old new answer
writes_failed (Ok value) bytes old new is begun failed = cc
writes_failed (Err fault) bytes old new is begun failed = record {
  written = tt;
  begun = begun;
  cause = record { failed = failed; steady = tt };
}
