-- What the laws of runs rest on of `deep`.
use Rattle.dvd_commands.specs.Deep.{IsImageRead}
use Rattle.dvd_commands.proofs.RunFacts.{RunFacts, facts_of_image}
use Rattle.dvd_commands.proofs.deep.Done.{image_read_is_one, image_read_some}
use Rattle.dvd_words.specs.declared.table.Command.TheVariants.{Deep}

pub facts : RunFacts Deep
facts = facts_of_image IsImageRead (λ layout k entry rows marks size marks_size. image_read_is_one layout k entry rows marks) image_read_some
