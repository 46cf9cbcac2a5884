-- The proof of `with_chunk` in src/edc.rt.
use Rattle.std.proofs.Common.{ap₂, ◌∙◌, arith}
use Rattle.std.specs.Prelude.{bit_xor}
use Rattle.cd_sector.proofs.Chunks.{chunk_read}
use Rattle.cd_sector.proofs.edc.with_chunk.Goals as goal

pub returns : goal.returns
returns c =
    ap₂ bit_xor (ap₂ bit_xor c.remainder_of_word.ensures c.remainder_of_word-2.ensures) (ap₂ bit_xor c.remainder_of_word-3.ensures c.remainder_of_word-4.ensures)
    ∙ chunk_read c.args.register c.args.chunk c.to_le_bytes.result (omega arith) (omega arith) c.to_le_bytes.ensures
