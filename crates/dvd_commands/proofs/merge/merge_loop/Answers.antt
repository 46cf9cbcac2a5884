-- The proof of `merge_loop` in src/merge.rt.
use Rattle.std.proofs.Common.{◌*◌, refl}
use Rattle.dvd_capture.specs.Captured.{block_size}
use Rattle.dvd_loop.proofs.LoopEnds.{never_told, plain_end}
use Rattle.dvd_loop.proofs.Silent.{beside, one_write, plain_silent}
use Rattle.dvd_commands.specs.Merge.{merge_units}
use Rattle.dvd_commands.proofs.merge.merge_loop.Goals as goal

pub returns-clause-follows : goal.returns-clause-follows
returns-clause-follows g c = λ report.
    let settings = c.args.settings.now in
    beside (merge_units c.args.layout.now settings.zones settings.form settings.captures)
    (plain_silent _ _ _ (λ k own steps kind done. one_write steps _ done.0))
    _ _ _ _ report c.run_plain.result c.run_plain.ensures

pub returns-clause-ends : goal.returns-clause-ends
returns-clause-ends g c =
    let f = c.run_plain.ensures.comes in
    let settings = c.args.settings.now in
    plain_end (merge_units c.args.layout.now settings.zones settings.form settings.captures) (λ k. settings.captures * block_size settings.form) (λ k own. refl) refl f.bytes f.outcome f.holds
    (λ k before own steps does. let no = does.1 in cc) c.run_plain.result f.ends (never_told _ _ c.run_plain.result c.run_plain.ensures.causes.report)
