-- The proof of `close` in src/loops.rt.
use Rattle.std.proofs.Common.{refl, sym, subst}
use Rattle.dvd_ports.specs.Bytes.{Appends}
use Rattle.dvd_ports.specs.Whole.{AppendsPrefix}
use Rattle.dvd_loop.specs.Machine.{Closes}
use Rattle.dvd_loop.specs.Streams.{HaveReached, streams}
use Rattle.dvd_loop.proofs.EndLemmas.{closed_none, closed_line, closed_fault, not_report}
use Rattle.dvd_loop.proofs.loops.close.Goals as goal

pub returns-in-ReportFault-clause-closes : goal.returns-in-ReportFault-clause-closes
returns-in-ReportFault-clause-closes g c = λ closing source output line.
    subst (λ end. HaveReached (λ bytes. Closes closing end) (streams source output (g.E.Sink.seen c.args.report.now)) (streams source output (g.E.Sink.seen c.args.report.now)) end) (sym c.in-ReportFault.is)
    (closed_none closing (streams source output (g.E.Sink.seen c.args.report.now)))

pub returns-in-Ok : goal.returns-in-Ok
returns-in-Ok g c = record {
  closes = λ closing source output line.
      closed_line closing c.args.end c.in_default.not-ReportFault source output (g.E.Sink.seen c.args.report.now) (g.E.Sink.seen c.write_whole.new.out)
      (subst (Appends (g.E.Sink.seen c.args.report.now).bytes (g.E.Sink.seen c.write_whole.new.out).bytes) (sym line) c.in-Ok.ensures.written);
  same = λ not. refl;
  cause = λ not. not_report c.args.end not _ _ c.in-Ok.ensures.cause.steady;
  none = λ is. absurd (c.in_default.not-ReportFault is);
}

pub returns-in-Err : goal.returns-in-Err
returns-in-Err g c = record {
  closes = λ closing source output line.
      closed_fault closing c.args.end c.in_default.not-ReportFault source output (g.E.Sink.seen c.args.report.now) (g.E.Sink.seen c.write_whole.new.out)
      (subst (AppendsPrefix (g.E.Sink.seen c.args.report.now).bytes (g.E.Sink.seen c.write_whole.new.out).bytes) (sym line) c.in-Err.ensures.begun);
  same = λ not. absurd (not refl);
  cause = λ not. c.in-Err.ensures.cause.failed;
  none = λ is. absurd (c.in_default.not-ReportFault is);
}
