-- The proof of `any_of` in src/lanes.rt.
use Rattle.std.proofs.Common.{refl, arith}
use Rattle.std.proofs.lemmas.Simd.{get_or-replicate}
use Rattle.rs_lanes.proofs.lanes.any_of.Goals as goal

pub loop-k-init : goal.loop-k-init
loop-k-init g c = record {
  size = refl;
  zeros = λ j below. ((λ _ k under. absurd (omega arith)), (λ _. get_or-replicate 32 j 0 0 below));
}
