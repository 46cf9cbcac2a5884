-- The proof of `set_rows` in src/order.rt.
use Rattle.std.proofs.Common.{◌≡◌, ◌∙◌, ℕ, ◌+◌, ◌-◌, ◌*◌, List, length, take, sym, ap, arith}
use Rattle.std.proofs.lemmas.List.{length-take-le}
use Rattle.std.proofs.lemmas.Slice.{drop-put_mid, take-put_mid, take-put_mid_below}
use Rattle.dvd_capture.specs.Parts.{row_in}
use Rattle.dvd_capture.proofs.FlatRows.{row_after, row_before, same_before, same_after}
use Rattle.dvd_capture.proofs.order.set_rows.Goals as goal

pub returns-clause-set : goal.returns-clause-set
returns-clause-set c = λ k within.
    let i : ℕ = c.args.i in
    let at : ℕ = 182 * i in
    let bytes : List ℕ = c.args.bytes.now in
    let part : List ℕ = c.copy_from_slice.new.self in
    let size : length part ≡ length c.args.rows.now = ap length c.copy_from_slice.ensures.after in
    sym (row_before (at + length part) _ (i + k) (omega (arith, within, size)))
    ∙ ap (λ (l : List ℕ). row_in l (i + k)) (take-put_mid at _ bytes part (at + length part) (omega arith) (omega (arith, c.requires)))
    ∙ row_after (take at bytes) part i k (length-take-le at bytes (omega (arith, c.requires)))
    ∙ ap (λ (l : List ℕ). row_in l k) c.copy_from_slice.ensures.after

pub returns-clause-before : goal.returns-clause-before
returns-clause-before c = λ m less.
    let at : ℕ = 182 * c.args.i in
    same_before at _ c.args.bytes.now m
    (take-put_mid_below at _ c.args.bytes.now c.copy_from_slice.new.self at (omega arith) (omega (arith, c.requires)))
    (omega (arith, less))

pub returns-clause-after : goal.returns-clause-after
returns-clause-after c = λ m more.
    let at : ℕ = 182 * c.args.i in
    let end : ℕ = at + length c.args.rows.now in
    let size : length c.copy_from_slice.new.self ≡ length c.args.rows.now = ap length c.copy_from_slice.ensures.after in
    same_after end _ c.args.bytes.now m
    (drop-put_mid at (end - at) c.args.bytes.now c.copy_from_slice.new.self end (omega arith) (omega (arith, c.requires)) (omega (arith, size)))
    (omega (arith, more))

pub returns-clause-front : goal.returns-clause-front
returns-clause-front c =
    let at : ℕ = 182 * c.args.i in
    take-put_mid_below at _ c.args.bytes.now c.copy_from_slice.new.self at (omega arith) (omega (arith, c.requires))

pub returns-clause-rest : goal.returns-clause-rest
returns-clause-rest c =
    let at : ℕ = 182 * c.args.i in
    let end : ℕ = at + length c.args.rows.now in
    let size : length c.copy_from_slice.new.self ≡ length c.args.rows.now = ap length c.copy_from_slice.ensures.after in
    drop-put_mid at (end - at) c.args.bytes.now c.copy_from_slice.new.self end (omega arith) (omega (arith, c.requires)) (omega (arith, size))
