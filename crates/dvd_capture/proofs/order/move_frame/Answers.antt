-- The proof of `move_frame` in src/order.rt.
use Rattle.std.proofs.Common.{◌∙◌, ℕ, ◌*◌, List, ap, arith}
use Rattle.dvd_capture.specs.Parts.{row_in}
use Rattle.dvd_capture.proofs.FlatRows.{part_row}
use Rattle.dvd_capture.proofs.order.move_frame.Goals as goal

pub returns-clause-moved : goal.returns-clause-moved
returns-clause-moved c = λ k below.
    let m : ℕ = 13 * c.args.f in
    c.set_rows.ensures.set k (omega (arith, below))
    ∙ ap (λ (l : List ℕ). row_in l k) c.copy_from_slice.ensures.after
    ∙ part_row c.args.bytes.now (182 * m) _ m k (omega arith) (omega (arith, below))
