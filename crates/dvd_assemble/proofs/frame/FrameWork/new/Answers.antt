-- The proof of `FrameWork::new` in src/frame.rt.
use Rattle.dvd_capture.proofs.MarkLists.{no_marks}
use Rattle.dvd_assemble.proofs.frame.FrameWork.new.Goals as goal

pub returns-clause-marks : goal.returns-clause-marks
returns-clause-marks c = no_marks 13 c.none.result c.none.ensures
