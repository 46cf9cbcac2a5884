-- The proof of `put_block` in src/blocks.rt.
use Rattle.std.proofs.Common.{[], sym, ◌∙◌, arith}
use Rattle.std.proofs.lemmas.List.{ext_get_or}
use Rattle.dvd_capture.proofs.Columns.{length-from_columns}
use Rattle.dvd_capture.specs.Parts.{column_words}
use Rattle.dvd_capture.specs.Works.{block_of}
use Rattle.dvdecc_c.proofs.blocks.put_block.Goals as goal

pub returns : goal.returns
returns c =
    ext_get_or [] c.loop-i.rows (block_of c.args.work.now)
    (c.loop-i.invariant.size ∙ sym (length-from_columns (column_words c.args.work.now.columns)))
    (λ i within. c.loop-i.invariant.written i (omega (arith, c.loop-i.invariant.size)))
