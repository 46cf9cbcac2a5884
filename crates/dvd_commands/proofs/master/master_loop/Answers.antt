-- The proof of `master_loop` in src/master.rt.
use Rattle.std.proofs.Common.{refl}
use Rattle.dvd_loop.proofs.LoopEnds.{never_told, plain_end}
use Rattle.dvd_loop.proofs.Silent.{beside, one_write, plain_silent}
use Rattle.dvd_commands.specs.Master.{bytes_of_block, master_units}
use Rattle.dvd_commands.proofs.master.master_loop.Goals as goal

pub returns-clause-follows : goal.returns-clause-follows
returns-clause-follows g c = λ report.
    let settings = c.args.settings.now in
    beside (master_units c.args.layout.now settings.zones settings.cpr)
    (plain_silent _ _ _ (λ k own steps kind done. one_write steps _ done.writes))
    _ _ _ _ report c.run_plain.result c.run_plain.ensures

pub returns-clause-ends : goal.returns-clause-ends
returns-clause-ends g c =
    let f = c.run_plain.ensures.comes in
    let settings = c.args.settings.now in
    plain_end (master_units c.args.layout.now settings.zones settings.cpr) (bytes_of_block c.args.layout.now settings.zones) (λ k own. refl) refl f.bytes f.outcome f.holds
    (λ k before own steps does. let no = does.good in cc) c.run_plain.result f.ends (never_told _ _ c.run_plain.result c.run_plain.ensures.causes.report)
