-- The proof of `decode` in src/errors.rt.
use Rattle.std.proofs.Common.{arith}
use Rattle.rs_decode.proofs.Counting.{counts-from_near}
use Rattle.rs_decode.proofs.errors.decode.Goals as goal

pub returns-in_default-clause-beyond : goal.returns-in_default-clause-beyond
returns-in_default-clause-beyond g c = λ word near. absurd (omega (arith, c.in_default.ensures, counts-from_near g.row.N g.row.R c.args.word.now word c.args.marks.now near))
