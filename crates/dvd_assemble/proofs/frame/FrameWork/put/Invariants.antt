-- What each iteration of the loop in `FrameWork::put` keeps.
use Rattle.dvd_assemble.specs.Works.{frame_marks, frame_rows}
use Rattle.dvd_assemble.proofs.Reading.{IsPartlyPut}
use Rattle.dvd_assemble.proofs.frame.FrameWork.put.Given as goal

abbrev pub invariant-loop-q : goal.invariant-loop-q
invariant-loop-q l = IsPartlyPut l.form l.bytes (frame_rows l.self) (frame_marks l.self) l.q
