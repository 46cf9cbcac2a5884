-- What stays of a captured block.
use Rattle.std.specs.Prelude.{◌≡◌}
use Rattle.dvd_capture.specs.declared.work.Work.{Work}

-- the received rows and their marks are as they were
pub record KeepsReceived (old new : Work) : Type 0 where
  pub received : new.received ≡ old.received
  pub marks : new.marks ≡ old.marks

-- and what was found of them: row answers, columns and sectors
pub record KeepsFound (old new : Work) : Type 0 where
  pub answers : new.answers ≡ old.answers
  pub columns : new.columns ≡ old.columns
  pub sectors : new.sectors ≡ old.sectors
