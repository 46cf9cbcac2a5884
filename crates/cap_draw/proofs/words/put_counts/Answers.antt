-- The proof of `put_counts` in src/words.rt.
use Rattle.std.proofs.Common.{append_assoc}
use Rattle.cap_draw.proofs.words.put_counts.Goals as goal

pub returns-clause-bytes : goal.returns-clause-bytes
returns-clause-bytes c =
    let pi = simp (c.put_short.ensures.bytes, c.put_long.ensures.bytes) at c.put_long-2.ensures.bytes in
    simp (c.put.ensures.bytes, c.put_long-4.ensures.bytes, c.put_long-3.ensures.bytes, pi, append_assoc)
