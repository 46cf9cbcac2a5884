-- The proof of `set_mark` in src/row_marks.rt.
use Rattle.dvd_capture.proofs.MarkLists.{set-marks}
use Rattle.dvd_capture.proofs.row_marks.set_mark.Goals as goal

pub returns : goal.returns
returns c = set-marks c.args.bits.now c.args.j c.with_bit.result c.args.mark c.told-bits c.requires c.with_bit.ensures.same c.with_bit.ensures.others
