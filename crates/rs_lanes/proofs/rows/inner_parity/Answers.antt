-- The proof of `inner_parity` in src/rows.rt.
use Rattle.std.proofs.Common.{◌≡◌, ℕ, ◌%◌, ◌+◌, ◌<◌, All, length, take, refl, sym, ap, subst, ◌∙◌, arith, length-take-le}
use Rattle.std.proofs.lemmas.List.{map-id}
use Rattle.coding.specs.Field.{alpha, power}
use Rattle.coding.specs.Words.{IsByte, IsEncoded, value}
use Rattle.rs_code.proofs.Values.{value-byte}
use Rattle.coding.specs.Rows.{line, place, column}
use Rattle.rs_lanes.specs.Inner.Parity.{filled}
use Rattle.rs_lanes.specs.Inner.Thirds.{third}
use Rattle.rs_lanes.proofs.ColumnLemmas.{length-column, transposed_row}
use Rattle.rs_lanes.proofs.MatrixLemmas.{PI-basis}
use Rattle.rs_lanes.proofs.ParityLemmas.{encoded_by_values}
use Rattle.rs_lanes.proofs.rows.inner_parity.Goals as goal

-- the arrays have sizes that are addressed, and values are bytes
pub parity_of-parity-requires : goal.parity_of-parity-requires
parity_of-parity-requires c =
    let bytes : (k j : ℕ) → k < 10 → j < 32 → place c.values_of.result k j < 256 =
    λ k j few below. subst (λ b. b < 256) (sym ((c.values_of.ensures k few).each j below)) (value-byte (third c.put_thirds.new.thirds (k % 3) j) (power alpha k)) in
    (omega arith, (omega arith, (omega arith, bytes)))

pub returns-clause-encoded : goal.returns-clause-encoded
returns-clause-encoded c = λ n below.
    let whole = map-id c.args.rows.now in
    let row = line c.args.rows.now (c.args.top + n) in
    let size = subst (λ xs. length (line xs (c.args.top + n)) ≡ 182) whole (c.transpose.ensures.sizes n below) in
    let transposed = c.transpose.new.transposed in
    let parity = column c.parity_of-parity.result n in
    let same : column transposed n ≡ row =
    transposed_row transposed n row (omega arith) size (λ k inside. c.transpose.ensures.transposed k n inside below ∙ ap (λ xs. place xs (c.args.top + n) k) whole) in
    let encoded = encoded_by_values 182 10 (take 172 row) parity (length-take-le 172 row (omega arith)) (omega arith)
    (omega (arith, length-column c.parity_of-parity.result n))
    (subst (λ xs. All IsByte (take 172 xs)) same (c.put_thirds.ensures.bytes n below))
    (c.parity_of-parity.ensures.bytes n below)
    (λ k few.
    c.parity_of-parity.ensures.values PI-basis k n few below
    ∙ (c.values_of.ensures k few).each n below
    ∙ (c.put_thirds.ensures.thirds (k % 3) n (omega arith) below).values k refl
    ∙ ap (λ xs. value (filled 182 (take 172 xs)) (power alpha k)) same) in
    subst (IsEncoded 182 10 (take 172 row)) (sym (c.loop-n.invariant.set n (omega arith))) encoded
