-- The proof of the law `capture_is_recovered` in src/laws.rt.
use Rattle.dvd_top.proofs.PromisesKept.{capture_recovered}
use Rattle.dvd_top.proofs.laws.capture_is_recovered.Goals as goal

pub returns : goal.returns
returns c = capture_recovered
