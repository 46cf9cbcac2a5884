-- The proof of `mark_loop` in src/marking.rt.
use Rattle.std.proofs.Common.{refl}
use Rattle.dvd_loop.proofs.LoopEnds.{never_told, plain_end}
use Rattle.dvd_loop.proofs.Silent.{beside, one_write, plain_silent}
use Rattle.cap_mark.specs.Frames.{mark_units}
use Rattle.cap_mark.proofs.marking.mark_loop.Goals as goal

pub returns-clause-follows : goal.returns-clause-follows
returns-clause-follows g c = λ report.
    beside (mark_units c.args.spans.now) (plain_silent _ _ _ (λ k own steps kind done. one_write steps _ done.writes))
    _ _ _ _ report c.run_plain.result c.run_plain.ensures

pub returns-clause-ends : goal.returns-clause-ends
returns-clause-ends g c =
    let f = c.run_plain.ensures.comes in
    plain_end (mark_units c.args.spans.now) (λ k. 2366) (λ k own. refl) refl f.bytes f.outcome f.holds
    (λ k before own steps does. let no = does.good in cc) c.run_plain.result f.ends
    (never_told _ _ c.run_plain.result c.run_plain.ensures.causes.report)
