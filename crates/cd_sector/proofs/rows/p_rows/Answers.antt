-- The proof of `p_rows` in src/rows.rt.
use Rattle.std.proofs.Common.{◌≡◌, ℕ, ◌+◌, ◌*◌, List, get_or, take, drop, ap, get_or-take, ◌∙◌, arith}
use Rattle.std.proofs.lemmas.List.{get_or-drop, length-drop}
use Rattle.coding.specs.Rows.{place}
use Rattle.cd_sector.specs.Words.{sector_place}
use Rattle.cd_sector.proofs.Places.{sector_place-p}
use Rattle.cd_sector.proofs.RowWords.{chunk_place}
use Rattle.cd_sector.proofs.rows.p_rows.Goals as goal

pub returns-clause-bytes : goal.returns-clause-bytes
returns-clause-bytes c = λ m j inside below.
    let sector : List ℕ = c.args.sector.now in
    let covered : List ℕ = take 2236 (drop 12 sector) in
    let there : 12 + (86 * m + j) ≡ sector_place j m = omega (arith, sector_place-p j m below) in
    ap (λ rows. place rows m j) c.as_chunks.ensures.front
    ∙ chunk_place _ m j covered (omega (arith, length-drop 12 sector)) below
    ∙ get_or-take 2236 (drop 12 sector) (86 * m + j) 0 (omega arith)
    ∙ get_or-drop 12 sector (86 * m + j) 0
    ∙ ap (λ at. get_or sector at 0) there
