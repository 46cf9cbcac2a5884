-- The proof of `put_parity` in src/columns.rt.
use Rattle.std.proofs.Common.{◌+◌, List, ℕ, sym, ap, ap₂, ◌∙◌}
use Rattle.coding.specs.Field.{plus, product}
use Rattle.coding.specs.Rows.{line, column}
use Rattle.rs_lanes.proofs.ColumnLemmas.{length-column}
use Rattle.rs_lanes.proofs.LaneLemmas.{HoldsLanes-zip2}
use Rattle.cd_sector.proofs.ColumnWords.{with_parity}
use Rattle.cd_sector.proofs.columns.put_parity.Goals as goal

pub returns-clause-set : goal.returns-clause-set
returns-clause-set g c = λ j below.
    let rows = c.args.rows.now in
    let word : List ℕ = column rows (c.args.at + j) in
    let values = c.values_at.ensures in
    let sum : List ℕ = line c.values_at.result 0 in
    let lanes : List ℕ = c.with_multiple-lanes.result in
    let first = c.store.ensures.set j below in
    rw (sym (length-column rows (c.args.at + j)))
    (with_parity word _ _ (values.bytes j below)
    (first
    ∙ c.with_multiple-lanes.ensures.each j below
    ∙ ap₂ (λ (s v : ℕ). plus s (product v 0xF7)) (c.multiple.ensures.each j below ∙ ap (λ (s : ℕ). product s 0xF4) (values.sums.each j below)) (values.values.each j below))
    (c.store-2.ensures.set j below
    ∙ (HoldsLanes-zip2 32 plus lanes sum c.with_multiple-lanes.ensures.size values.sums.size).each j below
    ∙ ap₂ plus (sym first) (values.sums.each j below)))

pub returns-clause-first_below : goal.returns-clause-first_below
returns-clause-first_below g c = c.store.ensures.below

pub returns-clause-second_below : goal.returns-clause-second_below
returns-clause-second_below g c = c.store-2.ensures.below
