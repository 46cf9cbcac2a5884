-- The proof of `take_row` in src/row.rt.
use Rattle.std.proofs.Common.{◌≡◌, ◌∙◌, Bool, false, List, get_or, replicate, sym, ap, arith}
use Rattle.std.proofs.lemmas.Simd.{get_or-replicate}
use Rattle.dvd_capture.specs.MarkBits.{is_set}
use Rattle.dvd_capture.specs.Parts.{marks_of_row}
use Rattle.dvd_capture.proofs.MarkLists.{length-marks_of}
use Rattle.dvd_merge.proofs.Rows.{row-joined}
use Rattle.dvd_merge.proofs.row.take_row.Goals as goal

pub returns-then-is_clear : goal.returns-then-is_clear
returns-then-is_clear c =
    let clear : marks_of_row c.args.marks.now ≡ replicate 182 false = c.is_clear.ensures.0 c.if-is_clear.true in
    row-joined c.args.values.now c.args.codes.now c.join_row.new.values c.join_row.new.codes c.args.bytes.now (replicate 184 0) (marks_of_row c.args.marks.now)
    c.told-values c.told-codes c.join_row.array_long c.join_row.array_long2 c.told-bytes (length-marks_of c.args.marks.now.bits)
    (λ k below. ap is_set (get_or-replicate 184 k 0 0 (omega (arith, below))) ∙ sym (ap (λ (marks : List Bool). get_or marks k false) clear ∙ get_or-replicate 182 k false false below))
    c.join_row.ensures

pub returns-else-is_clear : goal.returns-else-is_clear
returns-else-is_clear c =
    row-joined c.args.values.now c.args.codes.now c.join_row-else-is_clear.new.values c.join_row-else-is_clear.new.codes c.args.bytes.now c.spread.result (marks_of_row c.args.marks.now)
    c.told-values c.told-codes c.join_row-else-is_clear.array_long c.join_row-else-is_clear.array_long2 c.told-bytes (length-marks_of c.args.marks.now.bits)
    c.spread.ensures
    c.join_row-else-is_clear.ensures
