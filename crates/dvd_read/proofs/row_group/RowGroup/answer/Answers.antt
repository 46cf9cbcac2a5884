-- The proof of `answer` in src/row_group.rt.
use Rattle.std.proofs.Common.{◌∙◌, Bool, List, sym, subst}
use Rattle.dvd_capture.specs.Answers.{IsFix}
use Rattle.dvd_read.proofs.row_group.RowGroup.answer.Goals as goal

pub returns-then-self-n-eq0 : goal.returns-then-self-n-eq0
returns-then-self-n-eq0 c =
    let zeros = c.args.self.now.zeros c.args.n c.requires.lane c.if-self-n-eq0.true in
    subst (λ (marks : List Bool). IsFix c.args.row.now marks c.take_row.new.word c.take_row.result) (sym (c.is_clear.ensures.0 c.if-not-is_clear.false))
    (c.take_row.ensures.right (λ k below. sym (c.requires.values k below) ∙ zeros k below))
