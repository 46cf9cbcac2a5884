-- What each iteration of the loop in `with_bytes` keeps.
use Rattle.std.proofs.Common.{◌≡◌, List, ℕ, ◌++◌, drop}
use Rattle.dvd_frame.specs.Inner.Registers.{divided_from}
use Rattle.dvd_frame.proofs.checks.with_bytes.Given as goal

abbrev pub invariant-loop-byte : goal.invariant-loop-byte
invariant-loop-byte l =
    (rest : List ℕ) → divided_from l.next (drop l.byte-index l.others ++ rest) ≡ divided_from l.register (l.bytes ++ rest)
