-- The proof of `assemble_loop` in src/assemble.rt.
use Rattle.dvd_assemble.specs.Shelves.{tables_of}
use Rattle.dvd_commands.proofs.assemble.Frames.{assemble_end, none_settled}
use Rattle.dvd_commands.proofs.assemble.assemble_loop.Goals as goal

pub run_units-requires : goal.run_units-requires
run_units-requires g c = none_settled c.args.layout.now c.args.settings.now.form (tables_of c.args.shelf.now) c.requires.unseen

pub returns-clause-ends : goal.returns-clause-ends
returns-clause-ends g c =
    let f = c.run_units.ensures.follows.comes in
    assemble_end c.args.layout.now c.args.settings.now.form c.args.settings.now.frames f.bytes f.outcome f.holds c.run_units.result f.ends
