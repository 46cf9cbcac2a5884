-- The proof of `other_bits` in src/row_marks.rt.
use Rattle.dvd_capture.proofs.PackedMarks.{reversed-mask}
use Rattle.dvd_capture.proofs.row_marks.other_bits.Goals as goal

pub returns : goal.returns
returns c = reversed-mask c.args.value c.args.bytes c.fits-bytes.0
