-- What each iteration of the loop in `with_bytes` keeps.
use Rattle.std.proofs.Common.{◌≡◌, List, ℕ, [], ◌++◌, slice_index_or, drop}
use Rattle.rs_code.specs.Inner.Registers.{after_bytes}
use Rattle.rs_code.proofs.register.with_bytes.Given as goal

-- the bytes that are left lead to the same register
abbrev pub invariant-loop-byte : goal.invariant-loop-byte
invariant-loop-byte l =
    (rest : List ℕ) → after_bytes (slice_index_or l.tables 0 []) l.next (drop l.byte-index l.bytes ++ rest)
    ≡ after_bytes (slice_index_or l.tables 0 []) l.register (l.bytes ++ rest)
