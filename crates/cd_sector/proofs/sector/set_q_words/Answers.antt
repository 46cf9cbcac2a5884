-- The proof of `set_q_words` in src/sector.rt.
use Rattle.std.proofs.Common.{◌≡◌, ℕ, ◌+◌, ◌-◌, List, [], get_or, take, sym, ap, get_or-take, ◌∙◌, arith}
use Rattle.std.proofs.lemmas.List.{length-take-le}
use Rattle.coding.specs.Rows.{line}
use Rattle.cd_sector.specs.Words.{sector_place}
use Rattle.cd_sector.proofs.Places.{word_size-q, sector_place-own}
use Rattle.cd_sector.proofs.RowWords.{put_below, put_two_below, put_at, encoded_word}
use Rattle.cd_sector.proofs.Spread.{covered-q}
use Rattle.cd_sector.proofs.sector.set_q_words.Goals as goal

pub slice_bounds-parity-end-2 : goal.slice_bounds-parity-end-2
slice_bounds-parity-end-2 c = omega (arith, length-take-le 43 c.q_rows.result (omega (arith, c.q_rows.ensures.size)))

pub returns-clause-kept : goal.returns-clause-kept
returns-clause-kept c = λ at below.
    put_two_below c.args.sector.now c.put.new.out c.put-2.new.out (line c.parity.result 0) (line c.parity.result 1) 2248 2300 at c.put.ensures c.put-2.ensures
    (omega arith) (omega arith) (omega arith) below

pub returns-clause-right : goal.returns-clause-right
returns-clause-right c = λ word above below.
    let old : List ℕ = c.args.sector.now in
    let middle : List ℕ = c.put.new.out in
    let new : List ℕ = c.put-2.new.out in
    let rows : List (List ℕ) = c.q_rows.result in
    let none : List ℕ = [] in
    let n : ℕ = word - 86 in
    let here : 86 + n ≡ word = omega arith in
    let first : sector_place word 43 ≡ 2248 + n = omega (arith, sector_place-own word 43 above (omega arith)) in
    let second : sector_place word 44 ≡ 2300 + n = omega (arith, sector_place-own word 44 above (omega arith)) in
    encoded_word new (take 43 rows) 43 word n _ _ (length-take-le 43 rows (omega (arith, c.q_rows.ensures.size))) (omega (arith, word_size-q word above))
    (λ m inside.
    ap (λ (row : List ℕ). get_or row n 0) (get_or-take 43 rows m none inside)
    ∙ c.q_rows.ensures.bytes m n (omega arith) (omega arith)
    ∙ ap (λ (w : ℕ). get_or old (sector_place w m) 0) here
    ∙ sym (returns-clause-kept c (sector_place word m) (covered-q word m above inside)))
    (sym (ap (λ (at : ℕ). get_or new at 0) first
    ∙ put_below middle new (line c.parity.result 1) 2300 (2248 + n) c.put-2.ensures (omega arith) (omega arith)
    ∙ put_at old middle (line c.parity.result 0) 2248 n c.put.ensures (omega arith) (omega (arith, c.parity.ensures.first_size))))
    (sym (ap (λ (at : ℕ). get_or new at 0) second ∙ put_at middle new (line c.parity.result 1) 2300 n c.put-2.ensures (omega arith) (omega (arith, c.parity.ensures.second_size))))
    (c.parity.ensures.codewords n (omega arith))
