-- The proof of `exercise_loop` in src/exercise.rt.
use Rattle.std.proofs.Common.{[], ap}
use Rattle.dvd_loop.specs.Streams.{no_stream}
use Rattle.dvd_loop.proofs.LoopEnds.{never_told}
use Rattle.dvd_commands.proofs.exercise.UnitCommand.{never_read, no_source, unread, write_end}
use Rattle.dvd_commands.proofs.exercise.exercise_loop.Goals as goal

pub returns-clause-ends : goal.returns-clause-ends
returns-clause-ends g c =
    let f = c.run_trials.ensures.follows no_stream in
    write_end c.args.settings.now.seed c.args.settings.now.blocks f.comes.bytes f.comes.outcome f.comes.holds c.run_trials.result f.comes.ends
    (never_read c.run_trials.result _ _ f.causes.source) (never_told [] [] c.run_trials.result f.causes.report)

pub returns-clause-follows : goal.returns-clause-follows
returns-clause-follows g c = λ report.
    let f = c.run_trials.ensures.follows report in record {
      comes = no_source _ _ _ _ _ _ _ _ (ap (λ s. s.left) c.new.ensures) f.comes;
      causes = record { source = unread c.run_trials.result (returns-clause-ends g c); output = f.causes.output; report = f.causes.report };
    }
