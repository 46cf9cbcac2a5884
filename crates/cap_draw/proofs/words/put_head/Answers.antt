-- The proof of `put_head` in src/words.rt.
use Rattle.std.proofs.Common.{append_assoc}
use Rattle.cap_draw.proofs.words.put_head.Goals as goal

pub returns-clause-bytes : goal.returns-clause-bytes
returns-clause-bytes c =
    let classes = simp (c.put-2.ensures.bytes, c.put.ensures.bytes, c.put_short.ensures.bytes) at c.put-3.ensures.bytes in
    simp (c.put-5.ensures.bytes, c.put-4.ensures.bytes, c.put_short-2.ensures.bytes, classes, append_assoc)
