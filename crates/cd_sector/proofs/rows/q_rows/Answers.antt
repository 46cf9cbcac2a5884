-- The proof of `q_rows` in src/rows.rt.
use Rattle.std.proofs.Common.{◌≡◌, ℕ, ◌+◌, ◌*◌, ◌/◌, ◌%◌, List, [], get_or, set, inl, inr, sym, ap, get_or-take, ◌∙◌, arith}
use Rattle.std.specs.Prelude.{take, drop}
use Rattle.std.proofs.lemmas.Bool.{cases_lt}
use Rattle.std.proofs.lemmas.List.{get_or-drop, get_or-set_same, get_or-set_other, length-set}
use Rattle.coding.specs.Rows.{place}
use Rattle.cd_sector.specs.Words.{sector_place}
use Rattle.cd_sector.proofs.RowWords.{diagonal_place, own_place, last_rows}
use Rattle.cd_sector.proofs.rows.q_rows.Goals as goal

pub loop-m-preserved : goal.loop-m-preserved
loop-m-preserved c =
    let rows : List (List ℕ) = c.loop-m.rows in
    let m : ℕ = c.loop-m.m in
    let sector : List ℕ = c.args.sector.now in
    let row : List ℕ = c.put_diagonals.new.row in
    record {
      size = length-set rows m row ∙ c.loop-m.invariant.size;
      set = λ i n inside below.
          elim (cases_lt i m) [
            | inl before ↦ ap (λ (r : List ℕ). get_or r n 0) (get_or-set_other rows m i row [] (omega arith)) ∙ c.loop-m.invariant.set i n before below
            | inr last ↦
                let is : i ≡ m = omega arith in
                ap (λ (k : ℕ). place (set rows m row) k n) is
                ∙ ap (λ (r : List ℕ). get_or r n 0) (get_or-set_same rows m row [] (omega (arith, c.loop-m.invariant.size)))
                ∙ c.put_diagonals.ensures n below
                ∙ c.covered_twice-covered.ensures (88 * m % 2236 + 86 * (n / 2) + n % 2) (omega arith)
                ∙ ap (λ (at : ℕ). get_or sector at 0) (diagonal_place m n (omega arith) below)
                ∙ ap (λ (k : ℕ). get_or sector (sector_place (86 + n) k) 0) (sym is)
          ];
    }

pub returns-clause-size : goal.returns-clause-size
returns-clause-size c =
    let rows : List (List ℕ) = c.loop-m.rows in
    let first : List ℕ = c.copy_from_slice.new.self in
    length-set (set rows 43 first) 44 c.copy_from_slice-2.new.self ∙ length-set rows 43 first ∙ c.loop-m.invariant.size

pub returns-clause-bytes : goal.returns-clause-bytes
returns-clause-bytes c = λ m n inside below.
    let sector : List ℕ = c.args.sector.now in
    let own : (from : ℕ) (row : List ℕ) → row ≡ take 52 (drop from sector) → get_or row n 0 ≡ get_or sector (from + n) 0 =
    λ from row is. ap (λ (r : List ℕ). get_or r n 0) is ∙ get_or-take 52 (drop from sector) n 0 below ∙ get_or-drop from sector n 0 in
    last_rows c.loop-m.rows c.copy_from_slice.new.self c.copy_from_slice-2.new.self n (λ k. get_or sector (sector_place (86 + n) k) 0) c.loop-m.invariant.size
    (λ k covered. c.loop-m.invariant.set k n (omega arith) below)
    (own 2248 c.copy_from_slice.new.self c.copy_from_slice.ensures.after ∙ ap (λ (at : ℕ). get_or sector at 0) (own_place 43 n (omega arith)))
    (own 2300 c.copy_from_slice-2.new.self c.copy_from_slice-2.ensures.after ∙ ap (λ (at : ℕ). get_or sector at 0) (own_place 44 n (omega arith)))
    m inside
