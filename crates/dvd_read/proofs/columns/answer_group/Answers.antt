-- The proof of `answer_group` in src/columns.rt.
use Rattle.std.proofs.Common.{◌∙◌, ◌+◌, ℕ, List, ap, arith}
use Rattle.coding.specs.Nearest.{near_of}
use Rattle.coding.specs.Product.{column}
use Rattle.dvd_read.specs.Parts.{answer_bytes}
use Rattle.dvd_read.proofs.MarkedColumns.{marked-answer}
use Rattle.dvd_read.proofs.columns.answer_group.Goals as goal

pub returns-clause-columns : goal.returns-clause-columns
returns-clause-columns c = record {
  are = λ k d within.
      c.loop-k.invariant.answered k d (omega arith)
      ∙ ap (λ (word : List ℕ). near_of 208 16 word c.args.erasures.now.marks) (c.requires.own.are k d (omega arith))
      ∙ ap (near_of 208 16 (column (answer_bytes c.args.answers.now) (c.args.start + k))) c.requires.marks
      ∙ marked-answer c.args.answers.now (c.args.start + k) c.requires.rows;
}
