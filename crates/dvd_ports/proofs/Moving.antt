-- What a loop keeps that moves a piece by several calls.
use Rattle.std.proofs.Common.{ℕ, List, length, take, ◌≤◌}
use Rattle.dvd_ports.specs.Bytes.{Bytes}
use Rattle.dvd_ports.specs.Causes.{HasGoneOn}
use Rattle.dvd_ports.specs.Seen.{Seen}

-- the first n bytes of the piece have moved, and no call failed or met the end
abbrev pub HasMoved : (Bytes → Bytes → List ℕ → Type 0) → Seen → Seen → ℕ → List ℕ → Type 0
HasMoved moves old now n piece = record {
  bytes : moves old.bytes now.bytes (take n piece);
  within : n ≤ length piece;
  steady : HasGoneOn old now;
}
