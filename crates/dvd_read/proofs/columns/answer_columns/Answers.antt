-- The proof of `answer_columns` in src/columns.rt.
use Rattle.std.proofs.Common.{◌∙◌, ◌+◌, ◌<◌, Bool, List, sym, subst, arith, map, get_or}
use Rattle.coding.specs.Filling.{marked}
use Rattle.coding.specs.TwoPass.{failed_of}
use Rattle.dvd_read.specs.Parts.{answer_word}
use Rattle.dvd_read.proofs.MarkedColumns.{many-unanswered, unanswered_word}
use Rattle.dvd_read.proofs.columns.answer_columns.Goals as goal

pub returns-in-None : goal.returns-in-None
returns-in-None c = record {
  are = λ k d within.
      let many : 16 < marked (failed_of (map answer_word c.args.answers.now)) = subst (λ (marks : List Bool). 16 < marked marks) c.requires.marks (omega (arith, c.in-None.ensures, c.from.ensures)) in
      unanswered_word (get_or c.leave_unanswered.new.piece k d) (c.leave_unanswered.ensures k d within)
      ∙ sym (many-unanswered c.args.answers.now (c.args.start + k) c.requires.rows many);
}
