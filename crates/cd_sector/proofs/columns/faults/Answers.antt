-- The proof of `faults` in src/columns.rt.
use Rattle.std.proofs.Common.{◌≡◌, ◌↔◌, ℕ, ◌+◌, ◌*◌, ◌-◌, ◌<◌, List, length, get_or, sym, subst, arith}
use Rattle.coding.specs.Words.{IsCodeword}
use Rattle.coding.specs.Rows.{column}
use Rattle.rs_lanes.proofs.ColumnLemmas.{group_more}
use Rattle.cd_sector.proofs.columns.faults.Goals as goal

-- a byte says whether its column is a codeword
abbrev Says : List (List ℕ) → ℕ → ℕ → Type 0
Says rows j byte = (byte ≡ 0) ↔ IsCodeword (length rows) 2 (column rows j)

-- one group more says so, and those before it still do
more : (rows : List (List ℕ)) (at : ℕ) (old new : List ℕ) → ((i : ℕ) → i < at → get_or new i 0 ≡ get_or old i 0)
    → ((i : ℕ) → i < 32 → Says rows (at + i) (get_or new (at + i) 0)) → ((i : ℕ) → i < at → Says rows i (get_or old i 0))
    → (j : ℕ) → j < at + 32 → Says rows j (get_or new j 0)
more rows at old new same set before =
    group_more (λ i. Says rows i (get_or new i 0)) at (λ i under. subst (Says rows i) (sym (same i under)) (before i under)) set

pub loop-group-init : goal.loop-group-init
loop-group-init g c = record { said = λ j none. absurd (omega arith) }

pub loop-group-preserved : goal.loop-group-preserved
loop-group-preserved g c = record {
  said = λ j below.
      more c.args.rows.now (32 * c.loop-group.group) c.loop-group.faults c.put_faults.new.faults c.put_faults.ensures.below c.put_faults.ensures.set
      c.loop-group.invariant.said j (omega arith);
}

pub returns-clause-codewords : goal.returns-clause-codewords
returns-clause-codewords g c = λ j below.
    more c.args.rows.now (g.row.W - 32) c.loop-group.faults c.put_faults-2.new.faults c.put_faults-2.ensures.below c.put_faults-2.ensures.set
    (λ i under. c.loop-group.invariant.said i (omega arith)) j (omega arith)
