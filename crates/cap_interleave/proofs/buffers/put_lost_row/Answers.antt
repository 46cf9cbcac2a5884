-- The proof of `put_lost_row` in src/buffers.rt.
use Rattle.std.proofs.Common.{◌∙◌, ◌++◌, append_assoc, ap, replicate}
use Rattle.cap_interleave.proofs.BlockLemmas.{whole_bits}
use Rattle.cap_interleave.proofs.buffers.put_lost_row.Goals as goal

pub returns-clause-row : goal.returns-clause-row
returns-clause-row c =
    c.in_ok-extend_from_slice-2.ensures.items
    ∙ ap (λ l. l ++ c.bits.result.now) c.in_ok-extend_from_slice.ensures.items
    ∙ append_assoc c.args.block.now.items (replicate 182 0) c.bits.result.now
    ∙ ap (λ l. c.args.block.now.items ++ (replicate 182 0 ++ l)) (c.bits.ensures ∙ c.where_not-marks.ensures.bits ∙ whole_bits)
