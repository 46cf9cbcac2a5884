-- The proof of `parity` in src/columns.rt.
use Rattle.std.proofs.Common.{◌≡◌, ℕ, ◌+◌, ◌*◌, ◌-◌, ◌<◌, List, [], ◌∷◌, ◌++◌, length, get_or, arith}
use Rattle.coding.specs.Words.{IsCodeword}
use Rattle.coding.specs.Rows.{column}
use Rattle.rs_lanes.proofs.ColumnLemmas.{group_more}
use Rattle.cd_sector.proofs.columns.parity.Goals as goal

-- two bytes are the parity of their column
abbrev AreParity : List (List ℕ) → ℕ → ℕ → ℕ → Type 0
AreParity rows j p q = IsCodeword (length rows + 2) 2 (column rows j ++ p ∷ q ∷ [])

-- one group of columns more has its parity, and those before it keep theirs
more : (rows : List (List ℕ)) (at : ℕ) (first second new_first new_second : List ℕ)
    → ((i : ℕ) → i < at → get_or new_first i 0 ≡ get_or first i 0) → ((i : ℕ) → i < at → get_or new_second i 0 ≡ get_or second i 0)
    → ((i : ℕ) → i < 32 → AreParity rows (at + i) (get_or new_first (at + i) 0) (get_or new_second (at + i) 0))
    → ((i : ℕ) → i < at → AreParity rows i (get_or first i 0) (get_or second i 0))
    → (j : ℕ) → j < at + 32 → AreParity rows j (get_or new_first j 0) (get_or new_second j 0)
more rows at first second new_first new_second same_first same_second set before =
    group_more (λ i. AreParity rows i (get_or new_first i 0) (get_or new_second i 0)) at
    (λ i under. rw (same_first i under, same_second i under) (before i under)) set

pub loop-group-init : goal.loop-group-init
loop-group-init g c = record { set = λ j none. absurd (omega arith) }

pub loop-group-preserved : goal.loop-group-preserved
loop-group-preserved g c =
    let put = c.put_parity.ensures in
    record {
      set = λ j below.
          more c.args.rows.now (32 * c.loop-group.group) c.loop-group.first c.loop-group.second c.put_parity.new.first c.put_parity.new.second
          put.first_below put.second_below put.set c.loop-group.invariant.set j (omega arith);
    }

pub returns-clause-codewords : goal.returns-clause-codewords
returns-clause-codewords g c = λ j below.
    let put = c.put_parity-2.ensures in
    more c.args.rows.now (g.row.W - 32) c.loop-group.first c.loop-group.second c.put_parity-2.new.first c.put_parity-2.new.second
    put.first_below put.second_below put.set (λ i under. c.loop-group.invariant.set i (omega arith)) j (omega arith)
