-- What each iteration of the loop in `sum_pi` keeps.
use Rattle.std.proofs.Common.{◌≡◌, ◌≤◌, ◌*◌, take, sum_by}
use Rattle.cap_survey.specs.Totals.{pi_of}
use Rattle.cap_survey.proofs.totals.sum_pi.Given as goal

abbrev pub invariant-loop-cell : goal.invariant-loop-cell
invariant-loop-cell l = record {
  sum : l.sum ≡ sum_by pi_of (take l.cell-index l.cells);
  few : l.sum ≤ 255 * l.cell-index;
}
