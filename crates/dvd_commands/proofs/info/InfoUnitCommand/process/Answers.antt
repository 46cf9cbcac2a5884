-- The proof of `kind` of `UnitCommand` for `Info` in src/info.rt.
use Rattle.std.proofs.Common.{refl}
use Rattle.dvd_loop.proofs.UnitLemmas.{err_is}
use Rattle.dvd_commands.proofs.CapturedUnits.{captured_done, captured_short}
use Rattle.dvd_commands.proofs.EntryBlocks.{done_by_entry}
use Rattle.dvd_commands.proofs.PlanEntries.{lead_in-has_numbers}
use Rattle.dvd_commands.proofs.info.InfoUnitCommand.process.Goals as goal

pub returns-in_err-fetch_block-clause-processed : goal.returns-in_err-fetch_block-clause-processed
returns-in_err-fetch_block-clause-processed g c = λ before number ready.
    captured_short _ c.args.self.now.form (λ k own. refl) c.args.k before number _ _ _ _ _ _ _ (err_is _ _ c.from_residual.ensures.1)
    c.in_err-fetch_block.ensures.ended (c.in_err-fetch_block.ensures.causes _ _)

pub ask_block-requires-clause-numbers : goal.ask_block-requires-clause-numbers
ask_block-requires-clause-numbers g c =
    let m = c.args.self.now in
    lead_in-has_numbers m.initial m.fits c.args.k c.lead_in_block-entry.result c.lead_in_block-entry.ensures

pub returns-clause-processed : goal.returns-clause-processed
returns-clause-processed g c = λ before number ready.
    let fetched = c.in_ok-fetch_block.ensures.full in
    captured_done _ _ (λ k own. refl) c.args.k before number _ _ _ _ _ _ _ fetched (c.in_ok-fetch_block.ensures.causes _ _) _ _ _
    (done_by_entry _ _ _ _ _ c.lead_in_block-entry.ensures _ _ _ fetched.rows_are fetched.marks_are
    _ _ _ (c.ask_block.ensures (g.S.Source.seen c.fetch_block.new.src) (g.E.Sink.seen c.args._report.now))) tt
