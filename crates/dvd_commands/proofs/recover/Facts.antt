-- What the laws of runs rest on of `recover`.
use Rattle.dvd_commands.specs.Recover.{IsImageDone}
use Rattle.dvd_commands.proofs.RunFacts.{RunFacts, facts_of_image}
use Rattle.dvd_commands.proofs.recover.Done.{done_is_one, done_some}
use Rattle.dvd_words.specs.declared.table.Command.TheVariants.{Recover}

pub facts : RunFacts Recover
facts = facts_of_image IsImageDone done_is_one done_some
