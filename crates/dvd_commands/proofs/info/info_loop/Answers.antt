-- The proof of `info_loop` in src/info.rt.
use Rattle.std.proofs.Common.{refl}
use Rattle.dvd_loop.proofs.LoopEnds.{never_told}
use Rattle.dvd_loop.proofs.Silent.{beside, unclosed_silent}
use Rattle.dvd_commands.specs.Info.{info_units}
use Rattle.dvd_commands.proofs.CaptureEnds.{sought_end}
use Rattle.dvd_commands.proofs.info.Blocks.{asked_silent, never_bad}
use Rattle.dvd_commands.proofs.info.info_loop.Goals as goal

pub returns-clause-follows : goal.returns-clause-follows
returns-clause-follows g c = λ report.
    let settings = c.args.settings.now in
    beside (info_units settings.initial settings.form)
    (unclosed_silent _ tt (λ k before own steps kind done. asked_silent done.entry.content done.entry _ _ steps kind done.does) (λ before steps none. none))
    _ _ _ _ report c.run_units.result c.run_units.ensures.follows

pub returns-clause-ends : goal.returns-clause-ends
returns-clause-ends g c =
    let f = c.run_units.ensures.follows.comes in
    let settings = c.args.settings.now in
    sought_end settings.form (info_units settings.initial settings.form) (λ k own. refl) f.bytes f.outcome f.holds refl
    (never_bad settings.initial settings.form) c.run_units.result f.ends (never_told _ _ c.run_units.result c.run_units.ensures.follows.causes.report)
