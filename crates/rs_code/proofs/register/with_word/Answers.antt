-- The proof of `with_word` in src/register.rt.
use Rattle.std.proofs.Common.{arith, rules}
use Rattle.rs_code.proofs.Words.{word_read}
use Rattle.rs_code.proofs.register.with_word.Goals as goal

pub returns : goal.returns
returns c = λ generator are rest.
    word_read generator c.args.tables.now c.args.register c.to_be_bytes.result c.args.word rest (omega arith) (omega arith) (λ k. search rules) c.to_be_bytes.ensures are
