-- The proof of `marks_say_what_is_lost` in src/laws.rt.
use Rattle.cap_mark.proofs.BitLemmas.{read_back}
use Rattle.cap_mark.proofs.laws.marks_say_what_is_lost.Goals as goal

pub returns : goal.returns
returns c = read_back
