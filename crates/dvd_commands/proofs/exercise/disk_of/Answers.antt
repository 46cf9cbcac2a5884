-- The proof of `disk_of` in src/exercise.rt.
use Rattle.dvd_commands.proofs.exercise.Blocks.{valid_disk}
use Rattle.dvd_commands.proofs.exercise.disk_of.Goals as goal

pub unwrap-requires : goal.unwrap-requires
unwrap-requires c = valid_disk c.args.blocks c.requires.some c.requires.few c.new.result c.new.ensures.refused
