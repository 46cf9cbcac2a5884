-- The proof of `add_by` in src/workers.rt.
use Rattle.dvd_commands.proofs.workers.add_by.Goals as goal

pub returns : goal.returns
returns g c = c.requires.adder.does _ _ c.add.ensures
