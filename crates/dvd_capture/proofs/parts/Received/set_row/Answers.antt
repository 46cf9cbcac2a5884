-- The proof of `Received::set_row` in src/parts.rt.
use Rattle.std.proofs.Common.{◌≡◌, ◌∙◌, ℕ, ◌+◌, ◌*◌, List, length, take, drop, sym, ap, subst, arith}
use Rattle.std.proofs.lemmas.List.{take_all, with_items_is}
use Rattle.dvd_capture.specs.Parts.{row_in, rows_in}
use Rattle.dvd_capture.proofs.FlatRows.{rows_in-set}
use Rattle.dvd_capture.proofs.parts.Received.set_row.Goals as goal

pub returns-clause-set : goal.returns-clause-set
returns-clause-set c =
    let i : ℕ = c.args.i in
    let row : List ℕ = c.args.row.now in
    let new : List ℕ = c.set_rows.new.bytes in
    let size : length new ≡ c.args.self.now.bytes.len = omega (arith, c.set_rows.ensures.size, c.deref_mut.ensures.len) in
    let first : i + 0 ≡ i = omega arith in
    let kept = λ (m : ℕ). ap (λ (l : List ℕ). row_in l m) c.deref_mut.ensures.value in
    ap rows_in (with_items_is c.args.self.now.bytes new size)
    ∙ rows_in-set c.args.self.now.bytes.items new i row c.requires.row
    (ap (row_in new) (sym first) ∙ c.set_rows.ensures.set 0 (omega (arith, c.requires.size)) ∙ take_all 182 row (omega (arith, c.requires.size)))
    (λ m less. c.set_rows.ensures.before m less ∙ kept m)
    (λ m more. c.set_rows.ensures.after m (omega (arith, more, c.requires.size)) ∙ kept m)

pub returns-clause-front : goal.returns-clause-front
returns-clause-front c =
    let at : ℕ = 182 * c.args.i in
    let new : List ℕ = c.set_rows.new.bytes in
    let size : length new ≡ c.args.self.now.bytes.len = omega (arith, c.set_rows.ensures.size, c.deref_mut.ensures.len) in
    ap (take at) (with_items_is c.args.self.now.bytes new size) ∙ c.set_rows.ensures.front
    ∙ ap (take at) c.deref_mut.ensures.value

pub returns-clause-rest : goal.returns-clause-rest
returns-clause-rest c =
    let end : ℕ = 182 * c.args.i + 182 in
    let new : List ℕ = c.set_rows.new.bytes in
    let size : length new ≡ c.args.self.now.bytes.len = omega (arith, c.set_rows.ensures.size, c.deref_mut.ensures.len) in
    let same : 182 * c.args.i + length c.args.row.now ≡ end = omega (arith, c.requires.size) in
    ap (drop end) (with_items_is c.args.self.now.bytes new size)
    ∙ subst (λ (n : ℕ). drop n new ≡ drop n c.deref_mut.result.now) same c.set_rows.ensures.rest
    ∙ ap (drop end) c.deref_mut.ensures.value
