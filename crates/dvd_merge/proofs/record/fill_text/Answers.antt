-- The proof of `fill_text` in src/record.rt.
use Rattle.std.proofs.Common.{◌≡◌, ℕ, ◌+◌, ◌*◌, List, length, map, sym, ◌∙◌, ap, arith}
use Rattle.std.proofs.lemmas.List.{take_all}
use Rattle.std.proofs.lemmas.Simd.{length-zip2}
use Rattle.coding.specs.Product.{line}
use Rattle.coding.specs.Recording.{row_at}
use Rattle.dvd_block.proofs.RowParts.{length-part_written}
use Rattle.dvd_block.proofs.Recorded.{recorded, recorded-none, recorded-put, recording-is}
use Rattle.dvd_merge.specs.MarkedText.{marked_row}
use Rattle.dvd_merge.specs.Planes.{place_from, row_of, table_of_planes}
use Rattle.dvd_merge.proofs.Lattice.{zip2-row}
use Rattle.dvd_merge.proofs.Texts.{record_is}
use Rattle.dvd_merge.proofs.record.fill_text.Goals as goal

pub loop-m-init : goal.loop-m-init
loop-m-init c = record { record_size = omega arith; size = omega arith; prefix = sym (recorded-none 0 (map marked_row (table_of_planes c.args.values.now c.args.codes.now))) }

pub loop-m-preserved : goal.loop-m-preserved
loop-m-preserved c =
    let m : ℕ = c.loop-m.m in
    let part : List ℕ = c.copy_from_slice.new.self in
    let table = table_of_planes c.args.values.now c.args.codes.now in
    let is : part ≡ line (map marked_row table) (row_at m) =
    record_is table m c.row_of_record-i.result part
    (length-zip2 row_of c.args.values.now c.args.codes.now (c.requires.values ∙ sym c.requires.codes) ∙ c.requires.values)
    c.row_of_record-i.ensures.within c.row_of_record-i.ensures.value
    (c.copy_from_slice.ensures.after ∙ c.fill_record.ensures ∙ ap marked_row (sym (zip2-row place_from c.args.values.now c.args.codes.now c.row_of_record-i.result))) in
    let size : length part ≡ 205 = ap length c.copy_from_slice.ensures.after ∙ c.fill_record.array_long in
    record {
      record_size = c.fill_record.array_long;
      size = length-part_written (205 * m) _ c.loop-m.text part (omega (arith, c.loop-m.invariant.size)) (omega arith) ∙ c.loop-m.invariant.size;
      prefix = recorded-put (205 * m) _ (205 * (m + 1)) m c.loop-m.text part (map marked_row table) (omega (arith, c.loop-m.invariant.size)) (omega arith) is c.loop-m.invariant.prefix;
    }

pub returns : goal.returns
returns c =
    let rows : List (List ℕ) = map marked_row (table_of_planes c.args.values.now c.args.codes.now) in
    let all : c.loop-m.m ≡ 208 = omega (arith, c.loop-m.auto.m-end, c.loop-m-test.false) in
    sym (take_all (205 * c.loop-m.m) c.loop-m.text (omega (arith, c.loop-m.invariant.size, all)))
    ∙ c.loop-m.invariant.prefix ∙ ap (λ m. recorded 0 m rows) all ∙ sym (recording-is rows)
