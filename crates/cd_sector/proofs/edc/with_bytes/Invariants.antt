-- What each iteration of the loops in `with_bytes` keeps.
use Rattle.std.proofs.Common.{◌≡◌, drop}
use Rattle.std.specs.List.{concat}
use Rattle.cd_sector.specs.Inner.Register.{after_reading}
use Rattle.cd_sector.proofs.edc.with_bytes.Given as goal

-- the chunks that are left lead to the same register
abbrev pub invariant-loop-chunk : goal.invariant-loop-chunk
invariant-loop-chunk l = after_reading (concat (drop l.chunk-index l.chunks)) l.next ≡ after_reading (concat l.chunks) l.register

-- so do the bytes that are left
abbrev pub invariant-loop-byte : goal.invariant-loop-byte
invariant-loop-byte l = after_reading (drop l.byte-index l.others) l.next ≡ after_reading l.bytes l.register
