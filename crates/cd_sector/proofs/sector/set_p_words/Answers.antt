-- The proof of `set_p_words` in src/sector.rt.
use Rattle.std.proofs.Common.{◌≡◌, ℕ, ◌+◌, List, [], get_or, take, sym, ap, get_or-take, ◌∙◌, arith}
use Rattle.std.proofs.lemmas.List.{length-take-le}
use Rattle.coding.specs.Rows.{line}
use Rattle.cd_sector.specs.Words.{sector_place}
use Rattle.cd_sector.proofs.Places.{word_size-p, sector_place-p}
use Rattle.cd_sector.proofs.RowWords.{put_below, put_two_below, put_at, encoded_word}
use Rattle.cd_sector.proofs.sector.set_p_words.Goals as goal

pub returns-clause-kept : goal.returns-clause-kept
returns-clause-kept c = λ at below.
    put_two_below c.args.sector.now c.put.new.out c.put-2.new.out (line c.parity.result 0) (line c.parity.result 1) 2076 2162 at c.put.ensures c.put-2.ensures
    (omega arith) (omega arith) (omega arith) below

pub returns-clause-right : goal.returns-clause-right
returns-clause-right c = λ word below.
    let old : List ℕ = c.args.sector.now in
    let middle : List ℕ = c.put.new.out in
    let new : List ℕ = c.put-2.new.out in
    let rows : List (List ℕ) = c.p_rows.result.now in
    let none : List ℕ = [] in
    let first : sector_place word 24 ≡ 2076 + word = omega (arith, sector_place-p word 24 below) in
    let second : sector_place word 25 ≡ 2162 + word = omega (arith, sector_place-p word 25 below) in
    encoded_word new (take 24 rows) 24 word word _ _ (length-take-le 24 rows (omega (arith, c.p_rows.ensures.size))) (omega (arith, word_size-p word below))
    (λ m inside.
    ap (λ (row : List ℕ). get_or row word 0) (get_or-take 24 rows m none inside)
    ∙ c.p_rows.ensures.bytes m word (omega arith) below
    ∙ sym (returns-clause-kept c (sector_place word m) (omega (arith, sector_place-p word m below))))
    (sym (ap (λ (at : ℕ). get_or new at 0) first
    ∙ put_below middle new (line c.parity.result 1) 2162 (2076 + word) c.put-2.ensures (omega arith) (omega arith)
    ∙ put_at old middle (line c.parity.result 0) 2076 word c.put.ensures (omega arith) (omega (arith, c.parity.ensures.first_size))))
    (sym (ap (λ (at : ℕ). get_or new at 0) second ∙ put_at middle new (line c.parity.result 1) 2162 word c.put-2.ensures (omega arith) (omega (arith, c.parity.ensures.second_size))))
    (c.parity.ensures.codewords word below)
