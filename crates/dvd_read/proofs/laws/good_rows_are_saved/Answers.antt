-- The proof of the law `good_rows_are_saved` in src/laws.rt.
use Rattle.dvd_read.proofs.SavedLaws.{good_rows-saved}
use Rattle.dvd_read.proofs.laws.good_rows_are_saved.Goals as goal

pub returns : goal.returns
returns c = good_rows-saved
