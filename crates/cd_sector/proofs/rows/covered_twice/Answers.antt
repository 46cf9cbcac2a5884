-- The proof of `covered_twice` in src/rows.rt.
use Rattle.std.proofs.Common.{◌≡◌, ℕ, ◌+◌, ◌%◌, List, ◌++◌, length, take, drop, sym, ap, get_or-take, ◌∙◌, arith}
use Rattle.std.proofs.lemmas.List.{get_or-drop, length-drop, length-take-le, take_all}
use Rattle.cd_sector.proofs.RowWords.{twice_place}
use Rattle.cd_sector.proofs.rows.covered_twice.Goals as goal

pub returns : goal.returns
returns c = λ at below.
    let sector : List ℕ = c.args.sector.now in
    let part : List ℕ = take 2236 (drop 12 sector) in
    let size : length part ≡ 2236 = length-take-le 2236 (drop 12 sector) (omega (arith, length-drop 12 sector)) in
    let whole : List ℕ = c.put-2.new.out in
    let first : take 2236 c.put.new.out ≡ part = ap (λ (k : ℕ). take (0 + k) c.put.new.out) (sym size) ∙ c.put.ensures in
    let both : whole ≡ part ++ part =
    sym (take_all 4472 whole (omega arith)) ∙ ap (λ (k : ℕ). take (2236 + k) whole) (sym size) ∙ c.put-2.ensures ∙ ap (λ (l : List ℕ). l ++ part) first in
    twice_place part whole at size both below
    ∙ get_or-take 2236 (drop 12 sector) (at % 2236) 0 (omega arith)
    ∙ get_or-drop 12 sector (at % 2236) 0
