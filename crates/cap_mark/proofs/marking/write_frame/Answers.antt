-- The proof of `write_frame` in src/marking.rt.
use Rattle.std.proofs.Common.{◌∙◌, ◌*◌, ap}
use Rattle.dvd_loop.specs.declared.ends.UnitKind.TheVariants.{Good}
use Rattle.dvd_loop.proofs.UnitLemmas.{err_is, write_begun, write_done}
use Rattle.cap_mark.specs.Frames.{marked_rows}
use Rattle.cap_mark.proofs.FrameLemmas.{marked}
use Rattle.cap_mark.proofs.marking.write_frame.Goals as goal

pub returns-in_err-write_whole : goal.returns-in_err-write_whole
returns-in_err-write_whole g c = λ source report.
    write_begun _ c.as_slice.result.now Good (marked c.args.spans.now c.args.k c.args.frame.now _ (c.as_slice.ensures.value ∙ c.put_rows.ensures ∙ ap (λ n. marked_rows c.args.spans.now (2366 * n) c.args.frame.now 13) c.from.ensures))
    source _ _ report _ (err_is _ _ c.from_residual.ensures.1) c.in_err-write_whole.ensures.begun c.in_err-write_whole.ensures.cause.failed

pub returns : goal.returns
returns g c = λ source report.
    write_done _ c.as_slice.result.now Good (marked c.args.spans.now c.args.k c.args.frame.now _ (c.as_slice.ensures.value ∙ c.put_rows.ensures ∙ ap (λ n. marked_rows c.args.spans.now (2366 * n) c.args.frame.now 13) c.from.ensures))
    source _ _ report c.in_ok-write_whole.ensures.written c.in_ok-write_whole.ensures.cause.steady
