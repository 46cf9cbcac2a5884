-- The proof of `convert_loop` in src/convert.rt.
use Rattle.std.proofs.Common.{refl}
use Rattle.dvd_capture.specs.Captured.{block_size}
use Rattle.dvd_capture.specs.Header.{header_bytes}
use Rattle.dvd_loop.specs.Machine.{IsOutcome}
use Rattle.dvd_loop.proofs.LoopEnds.{never_told, plain_end}
use Rattle.dvd_loop.proofs.Silent.{beside, one_write, unclosed_silent}
use Rattle.dvd_loop.proofs.StreamLemmas.{ended_as}
use Rattle.dvd_commands.specs.Convert.{Converts, convert_units}
use Rattle.dvd_commands.proofs.convert.Blocks.{sized_part}
use Rattle.dvd_commands.proofs.convert.convert_loop.Goals as goal

pub returns-clause-follows : goal.returns-clause-follows
returns-clause-follows g c = λ report.
    let settings = c.args.settings.now in
    let layout = c.args.layout.now in
    let opening = header_bytes c.header_of.result in
    let units = convert_units layout settings.zones settings.form opening in
    ended_as (IsOutcome units) (Converts settings layout) _ _ c.run_units.result
    (λ bytes outcome runs. (opening, c.header_of.ensures settings c.requires.layout refl, runs))
    (beside units
    (unclosed_silent _ tt (λ k before own steps kind done. one_write steps _ done.writes) (λ before steps none. none))
    _ _ _ _ report c.run_units.result c.run_units.ensures.follows)

pub returns-clause-ends : goal.returns-clause-ends
returns-clause-ends g c =
    let f = c.run_units.ensures.follows.comes in
    let settings = c.args.settings.now in
    plain_end (convert_units c.args.layout.now settings.zones settings.form (header_bytes c.header_of.result)) (λ k. block_size settings.form) (λ k own. sized_part settings.form c.requires.form own) refl
    f.bytes f.outcome f.holds (λ k before own steps does. let no = does.good in cc) c.run_units.result f.ends (never_told _ _ c.run_units.result c.run_units.ensures.follows.causes.report)
