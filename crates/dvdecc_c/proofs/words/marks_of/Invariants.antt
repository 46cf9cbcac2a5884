-- What each iteration of the loop in `marks_of` keeps.
use Rattle.std.proofs.Common.{◌≡◌, ℕ, ◌<◌, length, get_or, false, not, ◌==◌}
use Rattle.dvdecc_c.proofs.words.marks_of.Given as goal

abbrev pub invariant-loop-k : goal.invariant-loop-k
invariant-loop-k g l = record {
  size : length l.marks ≡ g.row.N;
  said : (j : ℕ) → j < l.k → get_or l.marks j false ≡ not (get_or l.lost j 0 == 0);
}
