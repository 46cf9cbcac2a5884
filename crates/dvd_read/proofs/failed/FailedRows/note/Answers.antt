-- The proof of `note` in src/failed.rt.
use Rattle.std.proofs.Common.{true, sym, arith, ◌∙◌, ap, ◌+◌, ℕ}
use Rattle.std.proofs.lemmas.List.{length-set}
use Rattle.dvd_read.proofs.NotedRows.{marked-most, marked-set}
use Rattle.dvd_read.proofs.failed.FailedRows.note.Goals as goal

pub overflow_add-self : goal.overflow_add-self
overflow_add-self c = (let failed = c.args.self.now in omega (arith, failed.counted, failed.size, marked-most failed.marks))

pub invariant_of-self : goal.invariant_of-self
invariant_of-self c =
    let failed = c.args.self.now in
    record {
      size = length-set failed.marks c.args.i true ∙ failed.size;
      counted = ap (λ (n : ℕ). n + 1) failed.counted ∙ sym (marked-set failed.marks c.args.i (omega (arith, failed.size)) c.if-not-self-i.true);
    }
