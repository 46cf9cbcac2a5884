-- The proof of `put_marks_line` in src/axes.rt.
use Rattle.std.proofs.Common.{append_assoc}
use Rattle.cap_draw.proofs.axes.put_marks_line.Goals as goal

pub returns-clause-bytes : goal.returns-clause-bytes
returns-clause-bytes c = simp (c.put.ensures.bytes, c.put_short.ensures.bytes, append_assoc)
