-- The proof of `take_captures` in src/merge.rt.
use Rattle.std.proofs.Common.{sym, subst}
use Rattle.dvd_ports.proofs.StopLemmas.{goes_on, unmoved}
use Rattle.dvd_loop.specs.Streams.{no_stream}
use Rattle.dvd_loop.specs.UnitCommand.{HasReadCause}
use Rattle.dvd_loop.proofs.StreamLemmas.{causes_first, reads_on}
use Rattle.dvd_loop.proofs.UnitLemmas.{err_is}
use Rattle.dvd_commands.proofs.merge.Captures.{capture_taken, captures_short, none_taken, on_err_is}
use Rattle.dvd_commands.proofs.merge.take_captures.Goals as goal

pub loop-c-init : goal.loop-c-init
loop-c-init g c = record { taken = none_taken c.args.form _ _ c.clear.ensures; steady = unmoved _ }

pub loop-c-preserved : goal.loop-c-preserved
loop-c-preserved g c = record {
  taken = capture_taken c.args.form c.requires.form c.loop-c.c _ _ _ _ _ _ _ c.loop-c.invariant.taken c.in_ok-fetch_capture.ensures.full c.take.ensures;
  steady = goes_on _ _ _ c.loop-c.invariant.steady (c.in_ok-fetch_capture.ensures.causes no_stream no_stream).source;
}

pub returns-in_err-fetch_capture-clause-short : goal.returns-in_err-fetch_capture-clause-short
returns-in_err-fetch_capture-clause-short g c =
    let end = c.in_err-fetch_capture.field-0.0 in
    on_err_is c.from_residual.result end _ (err_is c.from_residual.result end c.from_residual.ensures.1)
    (captures_short c.args.form c.loop-c.c c.args.captures c.args.k (g.S.Source.seen c.args.src.now) (g.S.Source.seen c.loop-c.src) (g.S.Source.seen c.fetch_capture.new.src) _ end
    c.loop-c-test.true c.loop-c.invariant.taken c.in_err-fetch_capture.ensures.short)

pub returns-in_err-fetch_capture-clause-causes : goal.returns-in_err-fetch_capture-clause-causes
returns-in_err-fetch_capture-clause-causes g c =
    let end = c.in_err-fetch_capture.field-0.0 in
    subst (λ r. HasReadCause r (g.S.Source.seen c.args.src.now) (g.S.Source.seen c.fetch_capture.new.src)) (sym (err_is c.from_residual.result end c.from_residual.ensures.1))
    (λ output report. causes_first _ _ _ end end (reads_on _ _ output report c.loop-c.invariant.steady) (c.in_err-fetch_capture.ensures.causes output report))

pub returns-clause-causes : goal.returns-clause-causes
returns-clause-causes g c = λ output report. reads_on _ _ output report c.loop-c.invariant.steady
