-- The proof of `put_diagonals` in src/rows.rt.
use Rattle.std.proofs.Common.{ℕ, ◌+◌, ◌*◌, ◌/◌, ◌%◌, get_or, set, ap, arith}
use Rattle.std.proofs.lemmas.List.{length-set}
use Rattle.cd_sector.proofs.RowWords.{pair_set}
use Rattle.cd_sector.proofs.rows.put_diagonals.Goals as goal

pub loop-n-preserved : goal.loop-n-preserved
loop-n-preserved c =
    let n : ℕ = c.loop-n.n in
    let covered = c.args.covered.now in
    let low : ℕ = get_or covered (c.args.from + 86 * n) 0 in
    let high : ℕ = get_or covered (c.args.from + 86 * n + 1) 0 in
    record {
      size = omega (arith, length-set c.loop-n.row (2 * n) low, length-set (set c.loop-n.row (2 * n) low) (2 * n + 1) high, c.loop-n.invariant.size);
      set = pair_set c.loop-n.row (λ k. get_or covered (c.args.from + 86 * (k / 2) + k % 2) 0) n low high (omega (arith, c.loop-n.invariant.size)) c.loop-n.invariant.set
          (ap (λ at. get_or covered at 0) (omega arith)) (ap (λ at. get_or covered at 0) (omega arith));
    }
