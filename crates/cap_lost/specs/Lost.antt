-- What was read of a report.
use Rattle.cap_lost.specs.Report.{Losses}
use Rattle.cap_lost.specs.declared.draft.Lost.{Lost}

-- the losses, as values alone
abbrev pub losses_in : Lost → Losses
losses_in lost = record { extents = lost.extents.items; written = lost.written }
