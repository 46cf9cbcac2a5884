-- What each iteration of the loop in `read_frames` keeps.
use Rattle.dvd_capture.specs.Parts.{sector_bytes}
use Rattle.coding.specs.TwoPass.{from_columns}
use Rattle.dvd_read.specs.Inner.Found.{words_of_columns}
use Rattle.dvd_read.proofs.FrameFaults.{AreMainsBefore, NoFaultBefore}
use Rattle.dvd_read.proofs.frames.read_frames.Given as goal

abbrev pub invariant-loop-f : goal.invariant-loop-f
invariant-loop-f l = record {
  right : NoFaultBefore (from_columns (words_of_columns l.columns)) l.plan l.f;
  mains : AreMainsBefore (from_columns (words_of_columns l.columns)) l.plan (sector_bytes l.sectors) l.f;
}
