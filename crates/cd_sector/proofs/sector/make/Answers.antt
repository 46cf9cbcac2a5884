-- The proof of `make` in src/sector.rt.
use Rattle.std.proofs.Common.{ℕ, ◌<◌, List, ◌∙◌, arith}
use Rattle.cd_sector.specs.Words.{sector_place, IsRight}
use Rattle.cd_sector.proofs.Places.{word_size-p, sector_place-p, kept_right}
use Rattle.cd_sector.proofs.Assembly.{same_prefix, all_words}
use Rattle.cd_sector.proofs.sector.make.Goals as goal

pub returns : goal.returns
returns c =
    let prefix : List ℕ = c.set_data.new.out in
    let p_set : List ℕ = c.set_p_words.new.sector in
    let whole : List ℕ = c.set_q_words.new.sector in
    let p_right : (word : ℕ) → word < 86 → IsRight whole word = λ word below.
    kept_right p_set whole word
    (λ m inside. c.set_q_words.ensures.kept (sector_place word m) (omega (arith, sector_place-p word m below, word_size-p word below)))
    (c.set_p_words.ensures.right word below) in
    record {
      size = c.set_q_words.ensures.size;
      begins = same_prefix 2076 whole prefix (omega (arith, c.set_q_words.ensures.size)) (omega (arith, c.set_data.ensures.size))
          (λ at below. c.set_q_words.ensures.kept at (omega arith) ∙ c.set_p_words.ensures.kept at below)
          ∙ c.set_data.ensures.prefix;
      words = all_words (IsRight whole) p_right c.set_q_words.ensures.right;
    }
