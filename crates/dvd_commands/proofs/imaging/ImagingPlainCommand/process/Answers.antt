-- The proof of `process` of `PlainCommand` for `Imaging` in src/imaging.rt.
use Rattle.std.proofs.Common.{refl}
use Rattle.dvd_loop.proofs.UnitLemmas.{err_is}
use Rattle.dvd_commands.proofs.CapturedUnits.{captured_done, captured_short}
use Rattle.dvd_commands.proofs.EntryBlocks.{an_image, done_by_entry, no_image}
use Rattle.dvd_commands.proofs.imaging.ImagingPlainCommand.process.Goals as goal

pub returns-in_err-fetch_block-clause-processed : goal.returns-in_err-fetch_block-clause-processed
returns-in_err-fetch_block-clause-processed g c = λ before number.
    captured_short _ c.args.self.now.form (λ k own. refl) c.args.k before number _ _ _ _ _ _ _ (err_is _ _ c.from_residual.ensures.1)
    c.in_err-fetch_block.ensures.ended (c.in_err-fetch_block.ensures.causes _ _)

pub returns-in-Image-clause-processed : goal.returns-in-Image-clause-processed
returns-in-Image-clause-processed g c = λ before number.
    let fetched = c.in_ok-fetch_block.ensures.full in
    captured_done _ _ (λ k own. refl) c.args.k before number _ _ _ _ _ _ _ fetched (c.in_ok-fetch_block.ensures.causes _ _) _ _ _
    (done_by_entry _ _ _ _ _ c.at-entry.ensures.is_there _ _ _ fetched.rows_are fetched.marks_are
    _ _ _ (an_image _ _ _ c.in-Image.is _ _ _ (c.give.ensures.done (g.S.Source.seen c.fetch_block.new.src)))) tt

pub returns-in-Zero-clause-processed : goal.returns-in-Zero-clause-processed
returns-in-Zero-clause-processed g c = λ before number.
    let fetched = c.in_ok-fetch_block.ensures.full in
    captured_done _ _ (λ k own. refl) c.args.k before number _ _ _ _ _ _ _ fetched (c.in_ok-fetch_block.ensures.causes _ _) _ _ _
    (done_by_entry _ _ _ _ _ c.at-entry.ensures.is_there _ _ _ fetched.rows_are fetched.marks_are
    _ _ _ (no_image _ _ c.in-Zero.is _)) tt
