-- The proof of `lanes_or_zeros` in src/rows.rt.
use Rattle.std.proofs.Common.{get_or, take, ap, sym, ◌∙◌, arith, get_or-take, length-take-le}
use Rattle.std.proofs.lemmas.List.{get_or_past}
use Rattle.std.proofs.lemmas.Simd.{get_or-replicate}
use Rattle.coding.specs.Rows.{column}
use Rattle.rs_lanes.proofs.ColumnLemmas.{length-column, get_or-column}
use Rattle.rs_lanes.proofs.rows.lanes_or_zeros.Goals as goal
use Rattle.rs_lanes.proofs.rows.lanes_or_zeros.Goals.{then-at-count, else-at-count}

pub returns : goal.returns
returns c = λ n below.
    let transposed = c.args.transposed.now in
    let word = column transposed n in
    let at = c.args.at in
    elim c.if-at-count.branch [
      | then-at-count w ↦ ap (λ lanes. get_or lanes n 0) w.result-is ∙ sym (get_or-take c.args.count word at 0 (omega arith) ∙ get_or-column transposed n at)
      | else-at-count w ↦
          ap (λ lanes. get_or lanes n 0) w.result-is
          ∙ get_or-replicate 32 n 0 0 below
          ∙ sym (get_or_past (take c.args.count word) at 0 (omega (arith, length-take-le c.args.count word (omega (arith, length-column transposed n)))))
    ]
