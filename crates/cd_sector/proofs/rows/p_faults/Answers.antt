-- The proof of `p_faults` in src/rows.rt.
use Rattle.std.proofs.Common.{arith}
use Rattle.cd_sector.proofs.Places.{word_size-p}
use Rattle.cd_sector.proofs.RowWords.{column_right}
use Rattle.cd_sector.proofs.rows.p_faults.Goals as goal

pub returns-clause-right : goal.returns-clause-right
returns-clause-right c = λ word below.
    let rows = c.p_rows.result.now in
    let right = column_right c.args.sector.now rows word word (omega (arith, c.p_rows.ensures.size, word_size-p word below)) (λ m inside. c.p_rows.ensures.bytes m word (omega arith) below) in
    let says = c.faults.ensures.codewords word below in
    ((λ zero_is. right.0 (says.0 zero_is)), (λ is. says.1 (right.1 is)))
