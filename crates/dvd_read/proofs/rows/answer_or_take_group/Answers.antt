-- The proof of `answer_or_take_group` in src/rows.rt.
use Rattle.std.proofs.Common.{◌∙◌, ◌<◌, sym, arith}
use Rattle.dvd_read.proofs.rows.answer_or_take_group.Goals as goal

pub returns-then-take_unmarked-clause-answers : goal.returns-then-take_unmarked-clause-answers
returns-then-take_unmarked-clause-answers c = record {
  are = λ k d within.
      let below : k < 32 = omega arith in
      ((c.take_unmarked.ensures.taken c.if-take_unmarked.true).are k d within).right
      (λ p under. sym (c.requires.values p k under below) ∙ (c.any_of.ensures.zeros k below).0 (c.are_zeros.ensures.0 c.if-are_zeros.true k below) p under);
}
