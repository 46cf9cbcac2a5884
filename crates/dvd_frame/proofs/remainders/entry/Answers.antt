-- The proof of `entry` in src/remainders.rt.
use Rattle.std.proofs.Common.{ap, List, ℕ, ◌∙◌, get_or, zero-add, arith}
use Rattle.std.proofs.lemmas.List.FromFn.{get_or-map-range_with_len}
use Rattle.dvd_frame.specs.Inner.Registers.{byte_remainder}
use Rattle.dvd_frame.proofs.remainders.entry.Goals as goal

pub returns : goal.returns
returns c = λ k is.
    ap (λ (l : List ℕ). get_or l c.args.byte 0) is
    ∙ get_or-map-range_with_len (byte_remainder k) 0 256 c.args.byte c.args.byte 0 (omega arith) (zero-add c.args.byte)
