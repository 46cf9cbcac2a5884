-- The proof of `q_faults` in src/rows.rt.
use Rattle.std.proofs.Common.{◌+◌, arith}
use Rattle.cd_sector.proofs.Places.{word_size-q}
use Rattle.cd_sector.proofs.RowWords.{column_right}
use Rattle.cd_sector.proofs.rows.q_faults.Goals as goal

pub returns-clause-right : goal.returns-clause-right
returns-clause-right c = λ n below.
    let rows = c.q_rows.result in
    let right = column_right c.args.sector.now rows (86 + n) n (omega (arith, word_size-q (86 + n) (omega arith))) (λ m inside. c.q_rows.ensures.bytes m n (omega arith) below) in
    let says = c.faults.ensures.codewords n below in
    ((λ zero_is. right.0 (says.0 zero_is)), (λ is. says.1 (right.1 is)))
