-- The proof of `salvage_frame` in src/rescue.rt.
use Rattle.std.proofs.Common.{◌∙◌, sym, ap, replicate, is_some, unwrap_or}
use Rattle.dvd_decoding.specs.Salvage.{rescued}
use Rattle.dvd_read.proofs.HeldAnswers.{held, words}
use Rattle.dvd_read.proofs.rescue.salvage_frame.Goals as goal

pub save_frame-requires-clause-held : goal.save_frame-requires-clause-held
save_frame-requires-clause-held c =
    held c.args.work.now c.new-held.result.fixed _ _ c.new-held.ensures.columns c.new-held.ensures.width c.new-held.ensures.answers
    (rw (sym c.stage.ensures) c.new-held.ensures.fixed) c.requires.stage

pub returns-clause-main : goal.returns-clause-main
returns-clause-main c =
    c.save_frame.ensures.main
    ∙ ap (λ answers. unwrap_or (rescued answers c.args.plan.now c.args.f) (replicate 2048 0))
    (words c.args.work.now c.new-held.result.answers.now c.new-held.ensures.answers c.requires.stage)

pub returns-clause-saved : goal.returns-clause-saved
returns-clause-saved c =
    c.save_frame.ensures.saved
    ∙ ap (λ answers. is_some (rescued answers c.args.plan.now c.args.f))
    (words c.args.work.now c.new-held.result.answers.now c.new-held.ensures.answers c.requires.stage)
