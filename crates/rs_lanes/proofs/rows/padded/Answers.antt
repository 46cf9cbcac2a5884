-- The proof of `padded` in src/rows.rt.
use Rattle.std.proofs.Common.{get_or, take, ap, sym, ◌∙◌, arith}
use Rattle.coding.specs.Rows.{column}
use Rattle.rs_lanes.specs.Inner.Parity.{filled}
use Rattle.rs_lanes.proofs.ParityLemmas.{get_or-filled_back}
use Rattle.rs_lanes.proofs.ThirdLemmas.{zeros_first}
use Rattle.rs_lanes.proofs.rows.padded.Goals as goal
use Rattle.rs_lanes.proofs.rows.padded.Goals.{then-at-lt73, else-at-lt73}

pub returns : goal.returns
returns c = λ n below.
    let word = take c.args.count (column c.args.transposed.now n) in
    elim c.if-at-lt73.branch [
      | then-at-lt73 w ↦ zeros_first 73 (filled 182 word) _ c.args.at n w.result-is (omega arith) below
      | else-at-lt73 w ↦
          ap (λ lanes. get_or lanes n 0) w.result-is
          ∙ w.lanes_or_zeros.ensures n below
          ∙ sym (get_or-filled_back 73 182 word c.args.at (omega arith))
    ]
