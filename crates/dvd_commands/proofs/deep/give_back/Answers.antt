-- The proof of `give_back` in src/deep.rt.
use Rattle.std.proofs.Common.{◌∙◌, Err, refl, ap}
use Rattle.dvd_loop.proofs.UnitLemmas.{err_is}
use Rattle.dvd_report.specs.Lines.{round_line}
use Rattle.dvd_commands.proofs.TwoSteps.{line_fails, line_then}
use Rattle.dvd_commands.proofs.deep.give_back.Goals as goal

pub returns-in_err-line_reported : goal.returns-in_err-line_reported
returns-in_err-line_reported g c = λ source.
    let line_is = ap (λ n. round_line n c.args.entry.now c.args.round) c.from.ensures in
    let known = c.in_err-line_reported.ensures.written _ _ _ c.write_round.ensures in
    line_fails _ _ _ _ (refl, refl) source _ _ _ _ (err_is _ _ c.from_residual.ensures.1 ∙ ap Err c.in_err-line_reported.ensures.fault) (rw line_is at known.begun) known.cause.failed

pub returns : goal.returns
returns g c = λ source.
    let line_is = ap (λ n. round_line n c.args.entry.now c.args.round) c.from.ensures in
    let known = c.in_ok-line_reported.ensures.written _ _ _ c.write_round.ensures in
    line_then _ _ _ _ (refl, refl) source _ _ _ _ (rw line_is at known.written) known.cause.steady _ (c.unit_written.ensures _ source _ _ _ c.write_each.ensures)
