-- The proof of `deep_loop` in src/deep.rt.
use Rattle.std.proofs.Common.{refl}
use Rattle.dvd_commands.specs.Deep.{deep_units}
use Rattle.dvd_commands.proofs.CaptureEnds.{capture_end}
use Rattle.dvd_commands.proofs.deep.deep_loop.Goals as goal

pub returns-clause-ends : goal.returns-clause-ends
returns-clause-ends g c =
    let f = c.run_plain.ensures.comes in
    capture_end c.args.settings.now.form (deep_units c.args.layout.now c.args.settings.now.zones c.args.settings.now.form) (λ k own. refl) f.bytes f.outcome f.holds refl c.run_plain.result f.ends
