-- The proof of `put_cut_line` in src/words.rt.
use Rattle.std.proofs.Common.{append_assoc}
use Rattle.cap_draw.proofs.words.put_cut_line.Goals as goal

pub returns-clause-bytes : goal.returns-clause-bytes
returns-clause-bytes c = simp (c.put.ensures.bytes, c.put_long.ensures.bytes, append_assoc)
