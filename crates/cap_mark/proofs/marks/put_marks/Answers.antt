-- The proof of `put_marks` in src/marks.rt.
use Rattle.std.proofs.Common.{rules, ◌≡◌, ◌∙◌, ◌++◌, length, ap}
use Rattle.cap_mark.proofs.MarkLemmas.{row_of_bytes}
use Rattle.cap_mark.proofs.marks.put_marks.Goals as goal

pub returns-clause-items : goal.returns-clause-items
returns-clause-items c =
    let size : length c.rescued_places.result ≡ 182 = search rules in
    c.put.ensures.items
    ∙ ap (λ l. c.args.out.now.items ++ l)
    (c.bits.ensures ∙ c.where_not-marks.ensures.bits ∙ row_of_bytes c.rescued_places.result c.args.spans.now c.args.start size c.rescued_places.ensures)
