-- The proof of `no_totals` in src/survey.rt.
use Rattle.std.proofs.Common.{refl}
use Rattle.dvd_report.specs.Survey.{totals_of}
use Rattle.dvd_report.proofs.survey.no_totals.Goals as goal

pub returns-clause-totals : goal.returns-clause-totals
unfolding totals_of
returns-clause-totals c = refl
