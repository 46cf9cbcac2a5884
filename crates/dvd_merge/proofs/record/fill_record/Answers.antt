-- The proof of `fill_record` in src/record.rt.
use Rattle.std.proofs.Common.{◌∙◌, ℕ, List, ◌++◌, map, ap}
use Rattle.dvd_merge.specs.Join.{byte_of}
use Rattle.dvd_capture.specs.MarkBits.{mark_bytes}
use Rattle.dvd_merge.specs.MarkedText.{marked_row}
use Rattle.dvd_merge.specs.Planes.{row_of}
use Rattle.dvd_merge.proofs.Bits.{marks-codes}
use Rattle.dvd_merge.proofs.record.fill_record.Goals as goal

pub returns : goal.returns
unfolding marked_row
returns c =
    ap (λ (bytes : List ℕ). bytes ++ c.copy_from_slice.new.self) c.fill_bytes.ensures
    ∙ ap (λ (bits : List ℕ). map byte_of (row_of c.args.values.now c.args.codes.now) ++ bits)
    (c.copy_from_slice.ensures.after ∙ c.bits.ensures ∙ c.where_not.ensures.bits
    ∙ ap mark_bytes (marks-codes c.args.values.now c.args.codes.now c.told-values c.told-codes))
