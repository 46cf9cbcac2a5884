-- The proof of `are_zeros` in src/lanes.rt.
use Rattle.std.proofs.Common.{refl, arith}
use Rattle.std.proofs.lemmas.Bool.{eqb-true, eq-eqb}
use Rattle.rs_lanes.proofs.LaneLemmas.{joined-zero}
use Rattle.rs_lanes.proofs.lanes.are_zeros.Goals as goal

pub returns : goal.returns
returns c =
    let says = joined-zero 0 c.args.lanes in (
      (λ none k below. (says.0 (eqb-true _ _ none)).1 k (omega arith)),
      (λ zeros. eq-eqb _ _ (says.1 (refl, λ k below. zeros k (omega arith)))),
    )
