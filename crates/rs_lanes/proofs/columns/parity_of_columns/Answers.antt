-- The proof of `parity_of_columns` in src/columns.rt.
use Rattle.std.proofs.Common.{ℕ, ◌%◌, ◌+◌, ◌<◌, All, refl, sym, ap, subst, ◌∙◌, arith}
use Rattle.std.proofs.lemmas.List.{map-id}
use Rattle.coding.specs.Field.{alpha, power}
use Rattle.coding.specs.Words.{IsByte, value}
use Rattle.rs_code.proofs.Values.{value-byte}
use Rattle.coding.specs.Rows.{place, column}
use Rattle.rs_lanes.specs.Inner.Parity.{filled}
use Rattle.rs_lanes.specs.Inner.Thirds.{third}
use Rattle.rs_lanes.proofs.ColumnLemmas.{length-column}
use Rattle.rs_lanes.proofs.MatrixLemmas.{PO-basis}
use Rattle.rs_lanes.proofs.ParityLemmas.{encoded_by_values}
use Rattle.rs_lanes.proofs.columns.parity_of_columns.Goals as goal

-- the arrays have sizes that are addressed, and values are bytes
pub parity_of-requires : goal.parity_of-requires
parity_of-requires c =
    let bytes : (k j : ℕ) → k < 16 → j < 32 → place c.values_of.result k j < 256 =
    λ k j few below. subst (λ b. b < 256) (sym ((c.values_of.ensures k few).each j below)) (value-byte (third c.put_thirds.new.thirds (k % 3) j) (power alpha k)) in
    (omega arith, (omega arith, (omega arith, bytes)))

pub returns-clause-encoded : goal.returns-clause-encoded
returns-clause-encoded c = λ j below.
    let rows = c.args.rows.now in
    let vectors = c.parity_of.result in
    let at = c.args.at + j in
    let whole = map-id rows in
    encoded_by_values 208 16 (column rows at) (column vectors j) (omega (arith, length-column rows at)) (omega arith) (omega (arith, length-column vectors j))
    (subst (λ xs. All IsByte (column xs at)) whole (c.put_thirds.ensures.bytes j below))
    (c.parity_of.ensures.bytes j below)
    (λ k few.
    c.parity_of.ensures.values PO-basis k j few below
    ∙ (c.values_of.ensures k few).each j below
    ∙ (c.put_thirds.ensures.thirds (k % 3) j (omega arith) below).values k refl
    ∙ ap (λ xs. value (filled 208 (column xs at)) (power alpha k)) whole)
