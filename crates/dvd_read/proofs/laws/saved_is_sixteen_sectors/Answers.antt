-- The proof of the law `saved_is_sixteen_sectors` in src/laws.rt.
use Rattle.dvd_read.proofs.SavedLaws.{sixteen-sectors}
use Rattle.dvd_read.proofs.laws.saved_is_sixteen_sectors.Goals as goal

pub returns : goal.returns
returns c rows marks entry size marks_size = sixteen-sectors rows marks size marks_size entry
