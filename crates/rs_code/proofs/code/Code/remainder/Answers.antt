-- The proof of `Code::remainder` in src/code.rt.
use Rattle.std.proofs.Common.{◌≡◌, length, All, sym, ◌∙◌, subst, ap, arith}
use Rattle.std.proofs.lemmas.List.Elements.{All-append}
use Rattle.coding.specs.Field.{alpha, power}
use Rattle.coding.specs.Words.{IsByte, value}
use Rattle.rs_code.proofs.Codewords.{value-remainder}
use Rattle.rs_code.proofs.Distance.{All-sum_of}
use Rattle.rs_code.proofs.code.Code.remainder.Goals as goal

pub returns-clause-values : goal.returns-clause-values
returns-clause-values g c = λ k below.
    let message = c.split_at.result.0.now in
    let parity = c.split_at.result.1.now in
    let register = c.divide.new.parity in
    let same : length register ≡ length parity = omega arith in
    ap (λ xs. value xs (power alpha k)) c.add_word.ensures.sum
    ∙ value-remainder message register parity (power alpha k) same (c.divide.ensures.codeword.vanishes k below)
    ∙ ap (λ xs. value xs (power alpha k)) (sym c.split_at.ensures.by_index.0)

pub returns-clause-bytes : goal.returns-clause-bytes
returns-clause-bytes g c =
    subst (λ xs. All IsByte xs) (sym c.add_word.ensures.sum)
    (All-sum_of c.divide.new.parity c.split_at.result.1.now c.divide.ensures.parity_bytes c.add_word.ensures.word_bytes)

pub returns-clause-word_bytes : goal.returns-clause-word_bytes
returns-clause-word_bytes g c =
    subst (λ xs. All IsByte xs) (sym c.split_at.ensures.by_index.0)
    (All-append IsByte c.split_at.result.0.now c.split_at.result.1.now c.divide.ensures.message_bytes c.add_word.ensures.word_bytes)
