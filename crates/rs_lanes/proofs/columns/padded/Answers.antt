-- The proof of `padded` in src/columns.rt.
use Rattle.std.proofs.Common.{◌+◌, ◌-◌, get_or, map, ap, sym, ◌∙◌, arith}
use Rattle.coding.specs.Rows.{column}
use Rattle.rs_lanes.specs.Inner.Parity.{filled}
use Rattle.rs_lanes.proofs.ColumnLemmas.{get_or-column}
use Rattle.rs_lanes.proofs.ParityLemmas.{get_or-filled_back}
use Rattle.rs_lanes.proofs.ThirdLemmas.{zeros_first}
use Rattle.rs_lanes.proofs.columns.padded.Goals as goal
use Rattle.rs_lanes.proofs.columns.padded.Goals.{then-place-lt47, else-place-lt47}

pub returns : goal.returns
returns g c = λ j below.
    let rows = map g.T.Row.word c.args.rows.now in
    let at = c.args.at + j in
    let word = column rows at in
    elim c.if-place-lt47.branch [
      | then-place-lt47 w ↦ zeros_first 47 (filled 208 word) _ c.args.place j w.result-is (omega arith) below
      | else-place-lt47 w ↦
          ap (λ lanes. get_or lanes j 0) w.result-is
          ∙ w.lanes_or_zeros.ensures j below
          ∙ sym (get_or-filled_back 47 208 word c.args.place (omega arith) ∙ get_or-column rows at (c.args.place - 47))
    ]
