-- The proof of `repair_words` in src/repairing.rt.
use Rattle.std.proofs.Common.{arith}
use Rattle.cd_sector.proofs.RightWords.{all_kept, is_none-is}
use Rattle.cd_sector.proofs.repairing.repair_words.Goals as goal

pub returns-then-is_none-clause-words : goal.returns-then-is_none-clause-words
returns-then-is_none-clause-words c =
    all_kept c.args.sector.now (omega arith) (c.first_wrong_word.ensures.none (is_none-is c.first_wrong_word.result (c.if-is_none.ensures)))
