-- What each iteration of the loop in `read_survey` keeps, and what it has left: no survey has 2^30 bytes.
use Rattle.std.proofs.Common.{◌≡◌, ◌<◌, ◌-◌, ◌^◌, ◌++◌, ℕ, List}
use Rattle.dvd_ports.specs.Bytes.{Consumes}
use Rattle.cap_survey.specs.Survey.{progress, reading_on, survey_of}
use Rattle.dvd_ports.specs.Causes.{HasGoneOn}
use Rattle.cap_draw.proofs.drawing.read_survey.Given as goal

abbrev pub invariant-loop-reading : goal.invariant-loop-reading
invariant-loop-reading g l = record {
  text : List ℕ;
  reads : Consumes (g.S.Source.seen l.initial.src).bytes (g.S.Source.seen l.src).bytes text;
  same : (more : List ℕ) → survey_of (text ++ more) ≡ reading_on l.reading more;
  on : HasGoneOn (g.S.Source.seen l.initial.src) (g.S.Source.seen l.src);
  bound : progress l.reading < 2 ^ 30;
}

abbrev pub decreases-loop-reading : goal.decreases-loop-reading
decreases-loop-reading g l = 2 ^ 30 - progress l.reading
