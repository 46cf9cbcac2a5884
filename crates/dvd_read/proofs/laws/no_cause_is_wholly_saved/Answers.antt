-- The proof of the law `no_cause_is_wholly_saved` in src/laws.rt.
use Rattle.dvd_read.proofs.SavedLaws.{wholly-saved}
use Rattle.dvd_read.proofs.laws.no_cause_is_wholly_saved.Goals as goal

pub returns : goal.returns
returns c rows marks entry is none = wholly-saved rows marks entry none
