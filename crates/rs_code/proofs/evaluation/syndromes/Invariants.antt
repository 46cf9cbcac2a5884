-- What each iteration of the loop in `syndromes` keeps.
use Rattle.std.proofs.Common.{◌≡◌}
use Rattle.arrayvec.specs.ArrayVec.{array_vec_len}
use Rattle.rs_code.specs.Syndromes.{syndromes_of}
use Rattle.rs_code.proofs.evaluation.syndromes.Given as goal

-- the syndromes so far
abbrev pub invariant-loop-k : goal.invariant-loop-k
invariant-loop-k l = record {
  filled : array_vec_len l.syndromes ≡ l.k;
  so_far : l.syndromes.items ≡ syndromes_of l.k l.word;
}
