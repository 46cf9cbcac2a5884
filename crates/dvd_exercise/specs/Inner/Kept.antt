-- Ours: what no step of the damage changes.
use Rattle.std.specs.Prelude.{◌≡◌}
use Rattle.dvd_capture.specs.Kept.{KeepsFound}
use Rattle.dvd_capture.specs.Works.{marks_of_work, stage_of}
use Rattle.dvd_capture.specs.declared.stage.Stage.TheVariants.{Fetched}
use Rattle.dvd_capture.specs.declared.work.Work.{Work}

-- the block is still a fetched one, and answers, columns and sectors are as they were
pub record KeepsRest (old new : Work) : Type 0 where
  pub stage : stage_of new ≡ Fetched
  pub found : KeepsFound old new

-- and so are the marks: the received bytes alone may have changed
pub record KeepsAllButBytes (old new : Work) : Type 0 where
  pub marks : marks_of_work new ≡ marks_of_work old
  pub rest : KeepsRest old new
