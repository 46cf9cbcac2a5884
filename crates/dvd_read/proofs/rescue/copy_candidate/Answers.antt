-- The proof of `copy_candidate` in src/rescue.rt.
use Rattle.std.proofs.Common.{◌∙◌, map, sym, ap, is_some}
use Rattle.std.proofs.lemmas.Bool.{not-true}
use Rattle.coding.specs.TwoPass.{from_columns}
use Rattle.dvd_read.specs.Parts.{answer_word}
use Rattle.dvd_read.specs.Inner.Found.{words_of_columns}
use Rattle.dvd_read.proofs.SavedFrames.{candidate-answered, candidate-found, candidate-has}
use Rattle.dvd_read.proofs.rescue.copy_candidate.Goals as goal

pub returns-then-held-clause-candidate : goal.returns-then-held-clause-candidate
returns-then-held-clause-candidate c =
    λ yes.
    candidate-found (map answer_word c.args.held.now.answers.now) c.args.f
    (from_columns (words_of_columns c.args.held.now.columns.now)) c.copy_frame.new.frame
    (sym c.requires.held.fixed ∙ c.if-held.true) (c.requires.held.block c.if-held.true) c.copy_frame.ensures

pub returns-then-held-clause-has : goal.returns-then-held-clause-has
returns-then-held-clause-has c =
    sym (ap is_some (candidate-found (map answer_word c.args.held.now.answers.now) c.args.f
    (from_columns (words_of_columns c.args.held.now.columns.now)) c.copy_frame.new.frame
    (sym c.requires.held.fixed ∙ c.if-held.true) (c.requires.held.block c.if-held.true) c.copy_frame.ensures))

pub returns-else-held-clause-candidate : goal.returns-else-held-clause-candidate
returns-else-held-clause-candidate c =
    λ yes.
    candidate-answered (map answer_word c.args.held.now.answers.now) c.args.f c.copy_answered.new.frame (sym c.requires.held.fixed ∙ c.if-held.false)
    (not-true _ (sym c.copy_answered.ensures.has ∙ yes)) (c.copy_answered.ensures.frame yes)

pub returns-else-held-clause-has : goal.returns-else-held-clause-has
returns-else-held-clause-has c =
    candidate-has (map answer_word c.args.held.now.answers.now) c.args.f c.copy_answered.result
    (sym c.requires.held.fixed ∙ c.if-held.false) c.copy_answered.ensures.has
