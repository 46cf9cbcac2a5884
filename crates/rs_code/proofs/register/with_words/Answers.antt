-- The proof of `with_words` in src/register.rt.
use Rattle.std.proofs.Common.{◌+◌, [], ◌++◌, slice_index_or, drop, arith}
use Rattle.std.specs.List.{concat}
use Rattle.rs_code.proofs.Words.{words_done, words_more}
use Rattle.rs_code.proofs.register.with_words.Goals as goal

pub loop-word-preserved : goal.loop-word-preserved
loop-word-preserved c = λ generator are rest.
    let words = c.args.words.now in
    let i = c.loop-word.word-index in
    words_more (slice_index_or c.args.tables.now 0 []) words c.args.register c.loop-word.next c.with_word-next.result i rest (omega arith)
    (c.with_word-next.ensures generator are (concat (drop (i + 1) words) ++ rest)) (c.loop-word.invariant generator are rest)

pub returns : goal.returns
returns c = λ generator are rest.
    words_done (slice_index_or c.args.tables.now 0 []) c.args.words.now c.args.register c.loop-word.next c.loop-word.word-index rest c.loop-word-test.false (c.loop-word.invariant generator are rest)
