-- What each iteration of the loops in `set_rest` keeps: the bytes before are written.
use Rattle.std.proofs.Common.{◌≡◌, ◌*◌, length}
use Rattle.dvd_frame.specs.Inner.Folding.{AreRests}
use Rattle.dvd_frame.proofs.folds.set_rest.Given as goal

abbrev pub invariant-loop-k : goal.invariant-loop-k
invariant-loop-k g l = record {
  size : length l.rest ≡ 32 * g.row.W;
  each : AreRests g.row.W l.others l.quotient l.rest l.k;
}

abbrev pub invariant-loop-k-2 : goal.invariant-loop-k-2
invariant-loop-k-2 g l = record {
  size : length l.rest ≡ 32 * g.row.W;
  each : AreRests g.row.W l.others l.quotient l.rest l.k;
}

abbrev pub invariant-loop-k-3 : goal.invariant-loop-k-3
invariant-loop-k-3 g l = record {
  size : length l.rest ≡ 32 * g.row.W;
  each : AreRests g.row.W l.others l.quotient l.rest l.k;
}
