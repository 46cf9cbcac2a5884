-- The proof of `put_bits` in src/row_marks.rt.
use Rattle.std.proofs.Common.{◌∙◌, ap}
use Rattle.std.proofs.lemmas.Simd.{get_or-put_chunk_at, get_or-put_chunk_below}
use Rattle.dvd_capture.specs.MarkBits.{is_set}
use Rattle.dvd_capture.proofs.SpreadMarks.{lane-bit}
use Rattle.dvd_capture.proofs.row_marks.put_bits.Goals as goal

pub returns-clause-set : goal.returns-clause-set
returns-clause-set c = λ k below. ap is_set (get_or-put_chunk_at c.args.at c.args.marks.now _ k 0 below c.requires) ∙ lane-bit c.args.bits k below

pub returns-clause-below : goal.returns-clause-below
returns-clause-below c = λ k below. get_or-put_chunk_below c.args.at c.args.marks.now _ k 0 below
