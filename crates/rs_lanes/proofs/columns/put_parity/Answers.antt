-- The proof of `put_parity` in src/columns.rt.
use Rattle.std.proofs.Common.{◌≡◌, ◌+◌, ◌++◌, sym, subst, arith}
use Rattle.coding.specs.Words.{IsEncoded}
use Rattle.coding.specs.Rows.{column}
use Rattle.rs_lanes.proofs.ColumnLemmas.{same_columns}
use Rattle.rs_lanes.proofs.columns.put_parity.Goals as goal

pub returns-clause-encoded : goal.returns-clause-encoded
returns-clause-encoded c = λ j below.
    let rows = c.args.rows.now in
    let parity = c.put_vectors.new.parity in
    let vectors = c.parity_of_columns.result in
    let at = c.args.at + j in
    let same : column vectors j ≡ column parity at =
    same_columns vectors parity j at (omega arith) (λ k inside. sym (c.put_vectors.ensures.set k j (omega arith) below)) in
    subst (λ xs. IsEncoded 208 16 (column rows at) (column rows at ++ xs)) same (c.parity_of_columns.ensures.encoded j below)
