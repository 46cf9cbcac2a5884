-- What each iteration of the loop in `mark` keeps.
use Rattle.std.proofs.Common.{◌≡◌}
use Rattle.dvd_capture.specs.Works.{stage_of}
use Rattle.dvd_capture.specs.declared.stage.Stage.TheVariants.{Fetched}
use Rattle.dvd_capture.proofs.listed_tests.mark.Given as goal

abbrev pub invariant-loop-place : goal.invariant-loop-place
invariant-loop-place l = stage_of l.work ≡ Fetched
