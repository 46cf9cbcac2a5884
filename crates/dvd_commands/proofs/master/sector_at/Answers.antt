-- The proof of `sector_at` in src/master.rt.
use Rattle.std.proofs.Common.{◌≡◌, ◌∙◌, ◌+◌, ◌-◌, ◌*◌, ap, take, drop, arith}
use Rattle.dvd_commands.proofs.master.sector_at.Goals as goal

pub returns : goal.returns
returns c =
    let size : 2048 * c.args.f + 2048 - 2048 * c.args.f ≡ 2048 = omega arith in
    let chunk = rw c.unwrap.ensures at c.try_from.ensures.1 in
    chunk.same ∙ ap (λ n. take n (drop (2048 * c.args.f) c.args.sectors.now)) size
