-- The proof of `captures_are_marked_whole` in src/laws.rt.
use Rattle.cap_mark.proofs.CaptureLemmas.{marks_whole}
use Rattle.cap_mark.proofs.laws.captures_are_marked_whole.Goals as goal

pub returns : goal.returns
returns c = marks_whole
