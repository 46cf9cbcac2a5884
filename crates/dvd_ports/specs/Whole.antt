-- Ours: a piece that was written, and what is left where one was written, or a buffer filled, only in part.
use Rattle.std.specs.Prelude.{◌≡◌, ◌≢◌, ℕ, ◌<◌, List, [], ◌++◌, length, Option, Result, OnErr, OnOk}
use Rattle.std.specs.Io.KnownBytes.{Appends as GainsKnown}
use Rattle.dvd_ports.specs.Bytes.{Appends, Bytes, Consumes}
use Rattle.dvd_ports.specs.Causes.{HasCause}
use Rattle.dvd_ports.specs.Seen.{Seen}

-- where it is known what a writer of std holds, that grew by a prefix of the piece, or by all of it
pub record GainsPrefix (old new : Option (List ℕ)) (piece : List ℕ) : Type 0 where
  pub taken : List ℕ
  pub rest : List ℕ
  pub grows : GainsKnown old new taken
  pub whole : taken ++ rest ≡ piece

-- a prefix of the piece was accepted, and something of it was left
pub record AppendsPrefix (old new : Bytes) (piece : List ℕ) : Type 0 where
  pub taken : List ℕ
  pub rest : List ℕ
  pub grows : Appends old new taken
  pub whole : taken ++ rest ≡ piece
  pub more : rest ≢ []

-- A piece was written: all of it, or the sink failed and accepted a prefix of it. A fault has its cause, the last call
-- of the sink.
pub record IsWritten {E : Type 0} (piece : List ℕ) (old new : Seen) (answer : Result (Unit {0}) E) : Type 0 where
  pub written : OnOk answer (Appends old.bytes new.bytes piece)
  pub begun : OnErr answer (AppendsPrefix old.bytes new.bytes piece)
  pub cause : HasCause old new answer

-- fewer than `size` bytes were given
pub record ConsumesFewer (old new : Bytes) (size : ℕ) : Type 0 where
  pub taken : List ℕ
  pub loses : Consumes old new taken
  pub fewer : length taken < size
