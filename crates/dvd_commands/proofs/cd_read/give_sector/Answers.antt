-- The proof of `give_sector` in src/cd_read.rt.
use Rattle.std.proofs.Common.{◌∙◌, Err, ap}
use Rattle.dvd_loop.proofs.UnitLemmas.{err_is}
use Rattle.dvd_commands.proofs.cd_read.Sectors.{given, refused}
use Rattle.dvd_commands.proofs.TwoSteps.{line_fails, line_then, write_is}
use Rattle.dvd_commands.proofs.cd_read.give_sector.Goals as goal

pub returns-in-Ok : goal.returns-in-Ok
returns-in-Ok g c = λ source.
    write_is _ _ _ (given c.args.address c.args.k c.args.sector.now c.repair.new.sector c.in-Ok.ensures.repaired c.in-Ok.ensures.faultless)
    _ _ c.unit_written.result (c.unit_written.ensures _ source _ _ (g.E.Sink.seen c.args.report.now) c.write_whole.ensures)

pub returns-in_err-line_reported-in-Err : goal.returns-in_err-line_reported-in-Err
returns-in_err-line_reported-in-Err g c = λ source.
    let line_is = c.as_slice.ensures.bytes ∙ c.damaged_sector_line.ensures in
    let known = c.in_err-line_reported-in-Err.ensures.written _ _ _ c.write_whole-in-Err.ensures in
    line_fails _ _ _ _ (refused c.args.address c.args.k c.args.sector.now c.in-Err.cause c.in-Err.ensures.cause)
    source _ _ _ _ (err_is _ _ c.from_residual.ensures.1 ∙ ap Err c.in_err-line_reported-in-Err.ensures.fault) (rw line_is at known.begun) known.cause.failed

pub returns-in_ok-line_reported-in-Err : goal.returns-in_ok-line_reported-in-Err
returns-in_ok-line_reported-in-Err g c = λ source.
    let line_is = c.as_slice.ensures.bytes ∙ c.damaged_sector_line.ensures in
    let known = c.in_ok-line_reported-in-Err.ensures.written _ _ _ c.write_whole-in-Err.ensures in
    line_then _ _ _ _ (refused c.args.address c.args.k c.args.sector.now c.in-Err.cause c.in-Err.ensures.cause)
    source _ _ _ _ (rw line_is at known.written) known.cause.steady _ (c.unit_written-in-Err.ensures _ source _ _ _ c.write_whole-in-Err-2.ensures)
