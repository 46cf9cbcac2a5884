-- The proof of `row_differences` in src/passes.rt.
use Rattle.std.proofs.Common.{◌≡◌, ◌+◌, ◌≤◌, ℕ, get_or, take, subst, sym, arith}
use Rattle.coding.specs.Distance.{distance}
use Rattle.dvd_read.proofs.Differences.{distance-none, distance-next, distance-few}
use Rattle.dvd_read.proofs.passes.row_differences.Goals as goal

pub loop-j-init : goal.loop-j-init
loop-j-init c = record { counted = sym distance-none; few = omega arith }

pub loop-j-preserved : goal.loop-j-preserved
loop-j-preserved c =
    let received = c.args.received.now in
    let row = c.args.row.now in
    let j = c.loop-j.j in
    let count = c.loop-j.count in
    record {
      counted = subst (λ (n : ℕ). count + n ≡ distance (take (j + 1) received) (take (j + 1) row)) (sym c.from-count.ensures)
          (distance-next received row j count (omega arith) (omega arith) c.loop-j.invariant.counted);
      few = subst (λ (n : ℕ). count + n ≤ j + 1) (sym c.from-count.ensures) (distance-few (get_or received j 0) (get_or row j 0) j count c.loop-j.invariant.few);
    }
