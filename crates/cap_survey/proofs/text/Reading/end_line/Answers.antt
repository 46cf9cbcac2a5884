-- The proof of `end_line` in src/text.rt.
use Rattle.std.proofs.Common.{◌≡◌, ◌∙◌, ◌++◌, [], Err, ap, subst, sym}
use Rattle.cap_survey.specs.Survey.{Begun, after_line, fault_of_next, line_read, pieces_of, pieces_read}
use Rattle.cap_survey.proofs.Faults.{breaks}
use Rattle.cap_survey.proofs.text.Reading.end_line.Goals as goal

pub returns-in-Err-clause-rule : goal.returns-in-Err-clause-rule
returns-in-Err-clause-rule c = λ more.
    subst (λ (b : Begun). after_line b.read (line_read b.read (b.line ++ [])) (λ after. pieces_read after (pieces_of more).first (pieces_of more).others) ≡ Err c.fault.result)
    c.self.view_is
    (breaks c.self.inside.survey c.self.inside.line.items c.deref.result.now c.in-Err.cause _ c.deref.ensures.0 c.in-Err.ensures.rule
    ∙ ap (λ read. Err (fault_of_next read c.in-Err.cause)) (sym c.in-Err.ensures.same) ∙ ap Err (sym c.fault.ensures))
