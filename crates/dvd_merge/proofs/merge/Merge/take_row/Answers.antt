-- The proof of `Merge::take_row` in src/merge.rt.
use Rattle.std.proofs.Common.{◌≡◌, ◌∙◌, ℕ, List, [], sym, ap}
use Rattle.std.proofs.lemmas.List.{get_or_read_under}
use Rattle.coding.specs.Product.{line}
use Rattle.dvd_capture.specs.Parts.{marks_of_row}
use Rattle.dvd_merge.specs.Join.{join_rows, seen_row}
use Rattle.dvd_merge.specs.Planes.{row_of}
use Rattle.dvd_merge.specs.declared.place.Place.{Place}
use Rattle.dvd_merge.proofs.MergeTables.{codes-height, values-height}
use Rattle.dvd_merge.proofs.Tables.{row-planes, row-set}
use Rattle.dvd_merge.proofs.merge.Merge.take_row.Goals as goal

pub returns : goal.returns
returns c =
    let values : List (List ℕ) = c.args.self.now.values.items in
    let codes : List (List ℕ) = c.args.self.now.codes.items in
    let in_values : c.index_mut.result.now ≡ line values c.args.i = get_or_read_under values c.args.i 208 c.index_mut.result.now [] c.index_mut.ensures.value c.requires (sym (values-height c.args.self.now)) in
    let in_codes : c.index_mut-2.result.now ≡ line codes c.args.i = get_or_read_under codes c.args.i 208 c.index_mut-2.result.now [] c.index_mut-2.ensures.value c.requires (sym (codes-height c.args.self.now)) in
    row-set values codes c.args.i c.take_row.new.values c.take_row.new.codes _
    (c.take_row.ensures
    ∙ (λ n. join_rows (row_of (in_values n) (in_codes n)) (seen_row c.args.bytes.now (marks_of_row c.args.marks.now)))
    ∙ ap (λ (row : List Place). join_rows row (seen_row c.args.bytes.now (marks_of_row c.args.marks.now))) (sym (row-planes values codes c.args.i)))
