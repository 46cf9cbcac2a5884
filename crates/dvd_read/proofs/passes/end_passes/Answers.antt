-- The proof of `end_passes` in src/passes.rt.
use Rattle.dvd_read.proofs.Holding.{held-in}
use Rattle.dvd_read.proofs.passes.end_passes.Goals as goal

pub count_fixed-bytes-requires-clause-held : goal.count_fixed-bytes-requires-clause-held
count_fixed-bytes-requires-clause-held c = λ held.
    held-in c.args.work.now c.set_stage.new.self c.set_stage.ensures.answers c.set_stage.ensures.columns (c.requires.held held)

pub returns-in-Ok-clause-held : goal.returns-in-Ok-clause-held
returns-in-Ok-clause-held c = λ held.
    held-in c.args.work.now c.set_stage.new.self c.set_stage.ensures.answers c.set_stage.ensures.columns (c.requires.held held)

pub returns-in-Err-clause-held : goal.returns-in-Err-clause-held
returns-in-Err-clause-held c = λ held.
    held-in c.args.work.now c.set_stage-in-Err.new.self c.set_stage-in-Err.ensures.answers c.set_stage-in-Err.ensures.columns (c.requires.held held)
