-- The proof of `with_word` in src/checks.rt.
use Rattle.std.proofs.Common.{List, ℕ, ◌++◌, ap, ◌∙◌, arith}
use Rattle.std.specs.Prelude.{replicate}
use Rattle.coding.specs.Bits.{bits_of}
use Rattle.dvd_frame.specs.Edc.{remainder}
use Rattle.dvd_frame.proofs.WordDivision.{word_met, word_read}
use Rattle.dvd_frame.proofs.checks.with_word.Goals as goal

pub returns : goal.returns
returns c = λ rest.
    word_read c.args.register c.remainder_of_word.result c.args.word rest (omega arith)
    (c.remainder_of_word.ensures
    ∙ ap (λ (l : List ℕ). remainder 64 (bits_of l ++ replicate 32 0))
    (word_met c.args.register c.args.word c.to_be_bytes.result (omega arith) c.to_be_bytes.ensures))
