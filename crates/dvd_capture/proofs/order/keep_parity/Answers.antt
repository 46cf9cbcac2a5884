-- The proof of `keep_parity` in src/order.rt.
use Rattle.std.proofs.Common.{◌≡◌, ◌∙◌, ℕ, ◌+◌, ◌*◌, sym, ap, arith}
use Rattle.dvd_capture.specs.Parts.{row_in}
use Rattle.dvd_capture.proofs.FlatRows.{part_row}
use Rattle.dvd_capture.proofs.order.keep_parity.Goals as goal

pub returns-clause-row : goal.returns-clause-row
returns-clause-row c =
    let f : ℕ = c.args.f in
    let m : ℕ = 13 * f + 12 in
    let here : f + 0 ≡ f = omega arith in
    let there : m + 0 ≡ m = omega arith in
    ap (row_in c.set_rows.new.bytes) (sym here) ∙ c.set_rows.ensures.set 0 (omega arith)
    ∙ part_row c.args.bytes.now (182 * m) _ m 0 (omega arith) (omega arith) ∙ ap (row_in c.args.bytes.now) there
