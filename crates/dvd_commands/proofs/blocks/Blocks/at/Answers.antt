-- The proof of `at` of `Blocks` in src/blocks.rt.
use Rattle.dvd_commands.proofs.PlanEntries.{has_numbers}
use Rattle.dvd_commands.proofs.blocks.Blocks.at.Goals as goal

pub returns-clause-numbers : goal.returns-clause-numbers
returns-clause-numbers c =
    has_numbers c.args.self.now.layout c.args.self.now.zones c.from.result c.plan.result c.plan.ensures
