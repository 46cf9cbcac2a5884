-- The proof of `refuse_block` in src/captured.rt.
use Rattle.std.proofs.Common.{◌≤◌, ◌∙◌, Err, ap, refl, sym, subst}
use Rattle.dvd_layout.specs.Place.{image_sectors}
use Rattle.dvd_loop.proofs.UnitLemmas.{err_is}
use Rattle.dvd_commands.specs.Inner.Performing.{sectors_out}
use Rattle.dvd_commands.proofs.recover.Blocks.{few_saved, line_same}
use Rattle.dvd_commands.proofs.TwoSteps.{line_fails, line_then}
use Rattle.dvd_commands.proofs.captured.refuse_block.Goals as goal

pub write_cause-requires-clause-frames : goal.write_cause-requires-clause-frames
write_cause-requires-clause-frames g c = subst (λ n. n ≤ 16) (sym c.salvage-saved.ensures.saved) (few_saved c.args.work.now c.args.block.now.entry.now)

pub returns-in_err-line_reported : goal.returns-in_err-line_reported
returns-in_err-line_reported g c = λ source.
    let line_is = line_same _ _ c.args.block.now.entry.now c.args.cause.now _ _ c.from.ensures c.salvage-saved.ensures.saved in
    let known = c.in_err-line_reported.ensures.written _ _ _ c.write_cause.ensures in
    line_fails _ _ _ _ (refl, refl) source _ _ _ _ (err_is _ _ c.from_residual.ensures.1 ∙ ap Err c.in_err-line_reported.ensures.fault) (rw line_is at known.begun) known.cause.failed

pub returns : goal.returns
returns g c = λ source.
    let block = c.args.block.now in
    let line_is = line_same _ _ block.entry.now c.args.cause.now _ _ c.from.ensures c.salvage-saved.ensures.saved in
    let out_is = ap (sectors_out (image_sectors block.layout.now block.entry.now.content)) c.salvage-saved.ensures.out in
    let known = c.in_ok-line_reported.ensures.written _ _ _ c.write_cause.ensures in
    line_then _ _ _ _ (refl, refl) source _ _ _ _ (rw line_is at known.written) known.cause.steady _ (rw out_is at c.write_image.ensures source _)
