-- Of each command what the laws of whole runs rest on.
use Rattle.dvd_commands.proofs.assemble.Facts as assemble
use Rattle.dvd_commands.proofs.cd_read.Facts as cd_read
use Rattle.dvd_commands.proofs.convert.Facts as convert
use Rattle.dvd_commands.proofs.deep.Facts as deep
use Rattle.dvd_commands.proofs.exercise.Facts as exercise
use Rattle.dvd_commands.proofs.info.Facts as info
use Rattle.dvd_commands.proofs.making.Facts as making
use Rattle.dvd_commands.proofs.master.Facts as master
use Rattle.dvd_commands.proofs.merge.Facts as merge
use Rattle.dvd_commands.proofs.recover.Facts as recover
use Rattle.dvd_commands.proofs.survey.Facts as survey
use Rattle.dvd_commands.proofs.RunFacts.{RunFacts}
use Rattle.dvd_words.specs.declared.table.Command.{Command}
use Rattle.dvd_words.specs.declared.table.Command.TheVariants.{Frames, Master, Recover, Info, Survey, Exercise, CdMake, CdRead, Merge, Deep, Assemble, Convert}

pub facts_of : (command : Command) → RunFacts command
facts_of Frames = making.frames_facts
facts_of Master = master.facts
facts_of Recover = recover.facts
facts_of Info = info.facts
facts_of Survey = survey.facts
facts_of Exercise = exercise.facts
facts_of CdMake = making.cdmake_facts
facts_of CdRead = cd_read.facts
facts_of Merge = merge.facts
facts_of Deep = deep.facts
facts_of Assemble = assemble.facts
facts_of Convert = convert.facts
