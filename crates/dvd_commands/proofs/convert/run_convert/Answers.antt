-- The proof of `run_convert` in src/convert.rt.
use Rattle.std.proofs.Common.{◌≡◌, None, refl, sym, subst}
use Rattle.dvd_loop.proofs.StreamLemmas.{ended_as}
use Rattle.dvd_commands.specs.Commands.{GoesOver, meaning}
use Rattle.dvd_commands.specs.Meaning.{GoesBy}
use Rattle.dvd_commands.specs.Convert.{Converts}
use Rattle.dvd_commands.proofs.convert.run_convert.Goals as goal

pub returns-clause-performed : goal.returns-clause-performed
returns-clause-performed g c = λ report.
    let settings = c.args.start.now.settings.now in
    let layout = c.in_ok-layout.layout in record {
      valid = subst (λ command. (meaning command).breaks settings ≡ None) (sym c.requires.command) (c.in_ok-layout.ensures.valid refl);
      loop = ended_as (Converts settings layout) (GoesOver settings) _ _ c.convert_loop.result
          (λ bytes outcome converts.
          let (opening, header, runs) = converts in
          subst (λ command. GoesBy (meaning command) settings bytes outcome) (sym c.requires.command) ((layout, opening), (c.in_ok-layout.ensures.lengths, header), runs))
          (c.convert_loop.ensures.follows report);
    }
