-- The proof of `values_by` in src/rows.rt.
use Rattle.std.proofs.Common.{◌≡◌, ℕ, ◌%◌, List, length, take, All, refl, sym, ap, subst, ◌∙◌, arith}
use Rattle.std.proofs.Math.Seq.{take-length}
use Rattle.coding.specs.Field.{alpha, power}
use Rattle.coding.specs.Words.{IsByte, value}
use Rattle.coding.specs.Rows.{column}
use Rattle.rs_lanes.specs.Inner.Parity.{filled}
use Rattle.rs_lanes.proofs.ColumnLemmas.{length-column}
use Rattle.rs_lanes.proofs.ParityLemmas.{filled-whole}
use Rattle.rs_lanes.proofs.rows.values_by.Goals as goal

-- all 182 places of a lane are its word
whole : (transposed : List (List ℕ)) (n : ℕ) → length transposed ≡ 182 → take 182 (column transposed n) ≡ column transposed n
whole transposed n many = ap (λ count. take count (column transposed n)) (sym (length-column transposed n ∙ many)) ∙ take-length (column transposed n)

pub returns-clause-bytes : goal.returns-clause-bytes
returns-clause-bytes c = λ n below. subst (All IsByte) (whole c.args.transposed.now n (omega arith)) (c.put_thirds.ensures.bytes n below)

pub returns-clause-lanes : goal.returns-clause-lanes
returns-clause-lanes c = λ k inside. (c.values_of.ensures k (omega arith)).size

pub returns-clause-values : goal.returns-clause-values
returns-clause-values c = λ k n few below.
    let transposed = c.args.transposed.now in
    let many : length transposed ≡ 182 = omega arith in
    (c.values_of.ensures k few).each n below
    ∙ (c.put_thirds.ensures.thirds (k % 3) n (omega arith) below).values k refl
    ∙ ap (λ word. value word (power alpha k)) (ap (filled 182) (whole transposed n many) ∙ filled-whole 182 (column transposed n) (length-column transposed n ∙ many))
