-- The proof of `rand_of` in src/exercise.rt.
use Rattle.std.proofs.Common.{◌∙◌, arith}
use Rattle.dvd_commands.proofs.exercise.Trials.{state_first}
use Rattle.dvd_commands.proofs.exercise.rand_of.Goals as goal

pub returns : goal.returns
returns c = c.new.ensures ∙ state_first c.args.seed (omega (arith, c.ranges.seed.fits))
