-- The proof of `mark_zeros` in src/locating.rt.
use Rattle.std.proofs.Common.{arith}
use Rattle.rs_decode.proofs.Zeros.{with_zeros-from_places}
use Rattle.rs_decode.proofs.locating.mark_zeros.Goals as goal

pub returns : goal.returns
returns c = with_zeros-from_places c.args.locator.items c.args.marks.now c.loop-place.marks c.loop-place.invariant.size (λ k below. c.loop-place.invariant.marked k (omega arith))
