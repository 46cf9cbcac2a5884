-- What each iteration of the loops in `set_quotient` keeps: the chunks up to a place are written, and the last of them
-- is carried.
use Rattle.std.proofs.Common.{◌≡◌, ℕ, ◌+◌, ◌*◌, ◌<◌, ◌++◌, length, get_or}
use Rattle.dvd_frame.specs.Inner.Folding.{AreQuotients}
use Rattle.dvd_frame.proofs.folds.set_quotient.Given as goal

abbrev pub invariant-loop : goal.invariant-loop
invariant-loop g l = record {
  place : l.at ≡ g.row.W * l.counter;
  size : length l.quotient ≡ 33 * g.row.W;
  width : length l.carried ≡ g.row.W;
  each : AreQuotients g.row.W (l.fn.first ++ l.others) l.quotient (l.at + g.row.W);
  carried : (j : ℕ) → j < g.row.W → get_or l.carried j 0 ≡ get_or l.quotient (l.at + j) 0;
}

abbrev pub invariant-loop-2 : goal.invariant-loop-2
invariant-loop-2 g l = record {
  place : l.at ≡ g.row.W * l.counter;
  size : length l.quotient ≡ 33 * g.row.W;
  width : length l.carried ≡ g.row.W;
  each : AreQuotients g.row.W (l.fn.first ++ l.others) l.quotient (l.at + g.row.W);
  carried : (j : ℕ) → j < g.row.W → get_or l.carried j 0 ≡ get_or l.quotient (l.at + j) 0;
}
