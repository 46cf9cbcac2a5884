-- The proof of `write_made` in src/making.rt.
use Rattle.std.proofs.Common.{◌≡◌, [], ◌∷◌, ℕ, List, refl, subst, sym}
use Rattle.dvd_loop.specs.Machine.Step.{Write}
use Rattle.dvd_loop.specs.declared.ends.UnitKind.TheVariants.{Good}
use Rattle.dvd_commands.specs.Making.{IsMade}
use Rattle.dvd_commands.specs.Inner.Making.{IsMadeAs}
use Rattle.dvd_commands.specs.declared.making.Made.{Made}
use Rattle.dvd_commands.specs.declared.making.Made.TheVariants.{CdSector, DataFrame}
use Rattle.dvd_commands.proofs.TwoSteps.{write_is}
use Rattle.dvd_commands.proofs.making.write_made.Goals as goal

-- bytes that are made as this kind, which is the one that is asked for, are what is made
made_as : (made kind : Made) (number : ℕ) (sector bytes : List ℕ) → made ≡ kind → IsMadeAs kind number sector bytes
    → IsMade (IsMadeAs made number sector) (Write bytes ∷ []) Good
made_as made kind number sector bytes is holds = record {
  made = bytes;
  holds = subst (λ k. IsMadeAs k number sector bytes) (sym is) holds;
  writes = refl;
  good = refl;
}

pub returns-in-DataFrame : goal.returns-in-DataFrame
returns-in-DataFrame g c = λ source report.
    write_is _ c.write_frame.new.frame Good (made_as c.args.made DataFrame c.args.number c.args.sector.now _ c.in-DataFrame.is c.write_frame.ensures)
    _ _ _ (c.unit_written.ensures _ source _ _ report c.write_whole.ensures)

pub returns-in-CdSector : goal.returns-in-CdSector
returns-in-CdSector g c = λ source report.
    write_is _ c.make.new.out Good (made_as c.args.made CdSector c.args.number c.args.sector.now _ c.in-CdSector.is c.make.ensures)
    _ _ _ (c.unit_written-in-CdSector.ensures _ source _ _ report c.write_whole-in-CdSector.ensures)
