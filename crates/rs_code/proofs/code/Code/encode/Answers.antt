-- The proof of `Code::encode` in src/code.rt.
use Rattle.std.proofs.Common.{◌++◌, subst, arith}
use Rattle.coding.specs.Words.{IsEncoded}
use Rattle.rs_code.proofs.Codewords.{IsEncoded-from_codeword}
use Rattle.rs_code.proofs.code.Code.encode.Goals as goal

pub returns : goal.returns
returns g c =
    let message = c.split_at_mut-message.result.0.now in
    let parity = c.divide.new.parity in
    let encoded = IsEncoded-from_codeword g.row.N g.row.R message parity c.split_at_mut-message.ensures.front_len (omega arith) c.divide.ensures.codeword in
    subst (λ xs. IsEncoded g.row.N g.row.R xs (message ++ parity)) c.split_at_mut-message.ensures.front encoded
