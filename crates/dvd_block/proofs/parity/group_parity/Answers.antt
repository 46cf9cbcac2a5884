-- The proof of `group_parity` in src/parity.rt.
use Rattle.std.proofs.Common.{◌≡◌, ◌+◌, ℕ, take, subst, arith}
use Rattle.coding.specs.Words.{IsEncoded}
use Rattle.coding.specs.Product.{line}
use Rattle.dvd_block.proofs.parity.group_parity.Goals as goal

pub returns-then-rows-eq32-clause-encoded : goal.returns-then-rows-eq32-clause-encoded
returns-then-rows-eq32-clause-encoded c = λ i below.
    let here : 0 + i ≡ i = omega arith in
    subst (λ (k : ℕ). IsEncoded 182 10 (take 172 (line c.args.rows.now k)) (line c.inner_parity.new.rows k)) here
    (c.inner_parity.ensures.encoded i (omega (arith, c.if-rows-eq32.true)))
