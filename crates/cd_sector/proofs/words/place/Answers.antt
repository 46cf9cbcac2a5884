-- The proof of `place` in src/words.rt.
use Rattle.std.proofs.Common.{sym, arith}
use Rattle.cd_sector.proofs.Places.{word_size-p, word_size-q, sector_place-p, sector_place-q, sector_place-own}
use Rattle.cd_sector.proofs.words.place.Goals as goal

pub overflow_mul-result : goal.overflow_mul-result
overflow_mul-result c = omega (arith, word_size-p c.args.word (omega arith))

pub overflow_add-result : goal.overflow_add-result
overflow_add-result c = omega (arith, word_size-p c.args.word (omega arith))

pub overflow_add-result-then-word-lt-P_WORDS : goal.overflow_add-result-then-word-lt-P_WORDS
overflow_add-result-then-word-lt-P_WORDS c = omega (arith, word_size-p c.args.word (omega arith))

pub returns-then-word-lt-P_WORDS-clause-value : goal.returns-then-word-lt-P_WORDS-clause-value
returns-then-word-lt-P_WORDS-clause-value c = sym (sector_place-p c.args.word c.args.m (omega arith))

pub returns-then-word-lt-P_WORDS-clause-inside : goal.returns-then-word-lt-P_WORDS-clause-inside
returns-then-word-lt-P_WORDS-clause-inside c = omega (arith, word_size-p c.args.word (omega arith))

pub overflow_mul-result-else-m-lt43 : goal.overflow_mul-result-else-m-lt43
overflow_mul-result-else-m-lt43 c = omega (arith, word_size-q c.args.word (omega arith))

pub overflow_add-result-else-m-lt43 : goal.overflow_add-result-else-m-lt43
overflow_add-result-else-m-lt43 c = omega (arith, word_size-q c.args.word (omega arith))

pub overflow_add-result-else-m-lt43-2 : goal.overflow_add-result-else-m-lt43-2
overflow_add-result-else-m-lt43-2 c = omega (arith, word_size-q c.args.word (omega arith))

pub returns-then-m-lt43-clause-value : goal.returns-then-m-lt43-clause-value
returns-then-m-lt43-clause-value c = sym (sector_place-q c.args.word c.args.m (omega arith) (omega arith))

pub returns-else-m-lt43-clause-value : goal.returns-else-m-lt43-clause-value
returns-else-m-lt43-clause-value c = sym (sector_place-own c.args.word c.args.m (omega arith) (omega arith))

pub returns-else-m-lt43-clause-inside : goal.returns-else-m-lt43-clause-inside
returns-else-m-lt43-clause-inside c = omega (arith, word_size-q c.args.word (omega arith))
