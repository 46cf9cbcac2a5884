-- The proof of `count` of `Blocks` in src/blocks.rt.
use Rattle.std.proofs.Common.{arith}
use Rattle.dvd_commands.proofs.PlanLengths.{plan-few}
use Rattle.dvd_commands.proofs.blocks.Blocks.count.Goals as goal

pub overflow_cast-result : goal.overflow_cast-result
overflow_cast-result c = omega (arith, c.blocks-2.ensures, plan-few c.args.self.now.layout c.args.self.now.zones)
