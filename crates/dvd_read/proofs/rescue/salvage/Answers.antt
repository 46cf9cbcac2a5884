-- The proof of `salvage` in src/rescue.rt.
use Rattle.std.proofs.Common.{◌∙◌, sym, ap}
use Rattle.dvd_decoding.specs.Salvage.{block_out, saved_in}
use Rattle.dvd_read.specs.Inner.Saved.{frames_saved, sectors_saved}
use Rattle.dvd_read.proofs.HeldAnswers.{held, words}
use Rattle.dvd_read.proofs.rescue.salvage.Goals as goal

pub save_frames-requires-clause-held : goal.save_frames-requires-clause-held
save_frames-requires-clause-held c =
    held c.args.work.now c.new-held.result.fixed _ _ c.new-held.ensures.columns c.new-held.ensures.width c.new-held.ensures.answers
    (rw (sym c.stage.ensures) c.new-held.ensures.fixed) c.requires.stage

pub returns-clause-out : goal.returns-clause-out
unfolding block_out
returns-clause-out c =
    c.save_frames.ensures.out
    ∙ ap (λ answers. sectors_saved answers c.args.plan.now) (words c.args.work.now c.new-held.result.answers.now c.new-held.ensures.answers c.requires.stage)

pub returns-clause-saved : goal.returns-clause-saved
unfolding saved_in
returns-clause-saved c =
    c.save_frames.ensures.saved
    ∙ ap (λ answers. frames_saved answers c.args.plan.now) (words c.args.work.now c.new-held.result.answers.now c.new-held.ensures.answers c.requires.stage)
