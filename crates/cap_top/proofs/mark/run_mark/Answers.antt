-- The proof of `run_mark` in src/mark.rt.
use Rattle.std.proofs.Common.{◌≡◌, ◌∙◌, ap, inl, subst, sym}
use Rattle.dvd_loop.specs.Streams.{streams}
use Rattle.cap_top.specs.Mark.Lines.{closing_line}
use Rattle.cap_top.specs.Mark.Opening.{OpensMap}
use Rattle.cap_top.proofs.MarkLemmas.{has_marked}
use Rattle.cap_top.proofs.mark.run_mark.Goals as goal

pub returns-in-Ok : goal.returns-in-Ok
returns-in-Ok g c =
    let old = streams (g.S.Source.seen c.args.src.now) (g.K.Sink.seen c.args.out.now) (g.E.Sink.seen c.args.report.now) in
    let source = g.S.Source.seen c.mark_loop-end.new.src in
    let output = g.K.Sink.seen c.mark_loop-end.new.out in
    let end = c.mark_loop-end.result in
    let spans = c.deref.result.now in
    let good = c.args.settings.now.good.now in
    let before = g.M.Source.seen c.args.map.now in
    let after = g.M.Source.seen c.open_map.new.map in
    let line : closing_line end ≡ c.as_slice.result.now = sym (c.as_slice.ensures.bytes ∙ c.closing_line.ensures) in
    let opened : OpensMap c.as_bytes.result.now before after c.in-Ok.spans.items = c.in-Ok.ensures.opened in
    inl (record {
      spans = spans;
      opens = subst (λ s. OpensMap good before after s) (sym c.deref.ensures.value) (subst (λ t. OpensMap t before after c.in-Ok.spans.items) c.as_bytes.ensures.value opened);
      marks = has_marked spans old source output (g.E.Sink.seen c.args.report.now) (g.E.Sink.seen c.close.new.report) end c.close.result
          (c.mark_loop-end.ensures.follows (g.E.Sink.seen c.args.report.now)) (c.close.ensures.closes closing_line source output line)
          (λ is. ap (λ r. g.E.Sink.seen r) (c.close.ensures.none is)) c.close.ensures.cause c.close.ensures.same c.status_of.result c.status_of.ensures;
    })
