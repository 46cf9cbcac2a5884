-- What each iteration of the loop in `receive_all` keeps.
use Rattle.std.proofs.Common.{◌≡◌}
use Rattle.dvd_capture.specs.Works.{stage_of}
use Rattle.dvd_capture.specs.declared.stage.Stage.TheVariants.{Fetched}
use Rattle.dvd_merge.proofs.tests.receive_all.Given as goal

abbrev pub invariant-loop-case : goal.invariant-loop-case
invariant-loop-case l = stage_of l.work ≡ Fetched
