-- The proof of `lanes_or_zeros` in src/columns.rt.
use Rattle.std.proofs.Common.{ℕ, ◌+◌, List, [], get_or, map, ap, sym, ◌∙◌, arith}
use Rattle.std.proofs.lemmas.List.{get_or_past, length-map}
use Rattle.std.proofs.lemmas.Simd.{get_or-replicate}
use Rattle.rs_lanes.proofs.RowLemmas.{row_taken}
use Rattle.rs_lanes.proofs.columns.lanes_or_zeros.Goals as goal
use Rattle.rs_lanes.proofs.columns.lanes_or_zeros.Goals.{then-i-count, else-i-count}

pub returns : goal.returns
returns g c = λ j below.
    let rows = map g.T.Row.word c.args.rows.now in
    let at = c.args.at + j in
    let none : List ℕ = [] in
    elim c.if-i-count.branch [
      | then-i-count w ↦
          ap (λ lanes. get_or lanes j 0) w.result-is
          ∙ w.lanes_at.ensures.each j below
          ∙ ap (λ row. get_or row at 0) (row_taken g.T.Row.word c.args.rows.now c.args.i w.index-rows-i.result w.row.result.now (omega arith) w.index-rows-i.is w.row.ensures)
      | else-i-count w ↦
          ap (λ lanes. get_or lanes j 0) w.result-is
          ∙ get_or-replicate 32 j 0 0 below
          ∙ sym (ap (λ row. get_or row at 0) (get_or_past rows c.args.i none (omega (arith, length-map c.args.rows.now g.T.Row.word))))
    ]
