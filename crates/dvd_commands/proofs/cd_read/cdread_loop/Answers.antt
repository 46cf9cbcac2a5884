-- The proof of `cdread_loop` in src/cd_read.rt.
use Rattle.std.proofs.Common.{refl}
use Rattle.dvd_loop.proofs.LoopEnds.{damage_end}
use Rattle.dvd_commands.specs.CdRead.{cdread_units}
use Rattle.dvd_commands.proofs.cd_read.cdread_loop.Goals as goal

pub returns-clause-ends : goal.returns-clause-ends
returns-clause-ends g c =
    let f = c.run_plain.ensures.comes in
    damage_end (cdread_units c.args.settings.now.address c.args.settings.now.sectors) (λ k. 2352) (λ k own. refl) refl f.bytes f.outcome f.holds c.run_plain.result f.ends
