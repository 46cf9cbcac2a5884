-- The proof of `recover_loop` in src/recover.rt.
use Rattle.std.proofs.Common.{refl}
use Rattle.dvd_commands.specs.Recover.{recover_units}
use Rattle.dvd_commands.proofs.CaptureEnds.{capture_end}
use Rattle.dvd_commands.proofs.recover.recover_loop.Goals as goal

pub returns-clause-ends : goal.returns-clause-ends
returns-clause-ends g c =
    let f = c.run_plain.ensures.comes in
    capture_end c.args.settings.now.form (recover_units c.args.layout.now c.args.settings.now.zones c.args.settings.now.form) (λ k own. refl) f.bytes f.outcome f.holds refl c.run_plain.result f.ends
