-- The proof of `read_candidate` in src/rescue.rt.
use Rattle.std.proofs.Common.{◌∙◌, map, sym}
use Rattle.dvd_read.specs.Parts.{answer_word}
use Rattle.dvd_read.proofs.SavedFrames.{read-has, read-main, rescued-none}
use Rattle.dvd_read.proofs.rescue.read_candidate.Goals as goal

pub returns-then-copy_candidate-clause-main : goal.returns-then-copy_candidate-clause-main
returns-then-copy_candidate-clause-main c =
    λ ok.
    read-main (map answer_word c.args.held.now.answers.now) c.args.f c.args.plan.now c.read_frame_into.result c.copy_candidate.new.frame
    c.read_frame_into.new.out _ _
    (c.copy_candidate.ensures.candidate c.if-copy_candidate.true) c.id_of.ensures c.rule_of-rule.ensures (sym c.is_ok.ensures.value ∙ ok)
    c.read_frame_into.ensures.right c.read_frame_into.ensures.main

pub returns-then-copy_candidate-clause-saved : goal.returns-then-copy_candidate-clause-saved
returns-then-copy_candidate-clause-saved c =
    c.is_ok.ensures.value
    ∙ read-has (map answer_word c.args.held.now.answers.now) c.args.f c.args.plan.now c.read_frame_into.result c.copy_candidate.new.frame _ _
    (c.copy_candidate.ensures.candidate c.if-copy_candidate.true) c.id_of.ensures c.rule_of-rule.ensures
    c.read_frame_into.ensures.refused c.read_frame_into.ensures.right

pub returns-else-copy_candidate-clause-saved : goal.returns-else-copy_candidate-clause-saved
returns-else-copy_candidate-clause-saved c =
    c.if-copy_candidate.false
    ∙ sym (rescued-none (map answer_word c.args.held.now.answers.now) c.args.f c.args.plan.now (sym c.copy_candidate.ensures.has ∙ c.if-copy_candidate.false))
