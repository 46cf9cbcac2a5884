-- The proof of `record_rows` in src/block.rt.
use Rattle.std.proofs.Common.{◌≡◌, ℕ, ◌+◌, ◌*◌, List, length, sym, ◌∙◌, ap, arith}
use Rattle.std.proofs.lemmas.List.{take_all}
use Rattle.coding.specs.Product.{line}
use Rattle.coding.specs.Recording.{row_at}
use Rattle.dvd_block.proofs.RowParts.{length-part_written}
use Rattle.dvd_block.proofs.Recorded.{recorded, recorded-none, recorded-put, recording-is}
use Rattle.dvd_block.proofs.block.record_rows.Goals as goal

pub loop-m-init : goal.loop-m-init
loop-m-init c = record { size = omega arith; prefix = sym (recorded-none 0 c.args.rows.now) }

pub loop-m-preserved : goal.loop-m-preserved
loop-m-preserved c =
    let m : ℕ = c.loop-m.m in
    let part : List ℕ = c.copy_from_slice.new.self in
    let is : part ≡ line c.args.rows.now (row_at m) = c.copy_from_slice.ensures.after ∙ ap (line c.args.rows.now) c.row_of_record.ensures.value in
    let size : length part ≡ 182 = ap length c.copy_from_slice.ensures.after ∙ c.told-rows c.row_of_record.result (omega arith) in
    record {
      size = length-part_written (182 * m) _ c.loop-m.bytes part (omega (arith, c.loop-m.invariant.size)) (omega arith) ∙ c.loop-m.invariant.size;
      prefix = recorded-put (182 * m) _ (182 * (m + 1)) m c.loop-m.bytes part c.args.rows.now (omega (arith, c.loop-m.invariant.size)) (omega arith) is c.loop-m.invariant.prefix;
    }

pub returns : goal.returns
returns c =
    let rows : List (List ℕ) = c.args.rows.now in
    let all : c.loop-m.m ≡ 208 = omega (arith, c.loop-m.auto.m-end, c.loop-m-test.false) in
    sym (take_all (182 * c.loop-m.m) c.loop-m.bytes (omega (arith, c.loop-m.invariant.size, all)))
    ∙ c.loop-m.invariant.prefix ∙ ap (λ m. recorded 0 m rows) all ∙ sym (recording-is rows)
