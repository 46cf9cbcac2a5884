-- The proof of `get_rows` in src/block.rt.
use Rattle.std.proofs.Common.{◌≡◌, ℕ, ◌*◌, List, length, get_or, take, ap, ◌∙◌, arith}
use Rattle.std.proofs.lemmas.List.{get_or-take, length-take-le}
use Rattle.coding.specs.Product.{line}
use Rattle.dvd_block.proofs.RowParts.{length-part_written, got_more}
use Rattle.dvd_block.proofs.block.get_rows.Goals as goal

pub loop-q-preserved : goal.loop-q-preserved
loop-q-preserved c =
    let q : ℕ = c.loop-q.q in
    let part : List ℕ = c.copy_from_slice.new.self in
    let row : List ℕ = line c.args.rows.now q in
    let long : length row ≡ 182 = c.told-rows q (omega arith) in
    let after : part ≡ take 172 row = c.copy_from_slice.ensures.after in
    let size : length part ≡ 172 = ap length after ∙ length-take-le 172 row (omega arith) in
    record {
      size = length-part_written (172 * q) _ c.loop-q.frame part (omega (arith, c.loop-q.invariant.size)) (omega arith) ∙ c.loop-q.invariant.size;
      got = got_more q _ c.loop-q.frame part c.args.rows.now (omega arith) c.loop-q.invariant.size (omega arith) size
          (λ p inside. ap (λ (l : List ℕ). get_or l p 0) after ∙ get_or-take 172 row p 0 inside) c.loop-q.invariant.got;
    }
