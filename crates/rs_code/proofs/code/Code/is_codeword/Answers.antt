-- The proof of `Code::is_codeword` in src/code.rt.
use Rattle.std.proofs.Common.{arith}
use Rattle.rs_code.proofs.Codewords.{IsCodeword-remainder}
use Rattle.rs_code.proofs.code.Code.is_codeword.Goals as goal

pub returns : goal.returns
returns g c =
    let both = IsCodeword-remainder g.row.N g.row.R c.args.word.now c.remainder.result (omega arith) (omega arith) (omega arith) c.remainder.ensures.word_bytes c.remainder.ensures.bytes c.remainder.ensures.values in
    ((λ yes. both.0 (c.is_zero.ensures.0 yes)), (λ codeword. c.is_zero.ensures.1 (both.1 codeword)))
