-- The proof of `row_values_by` in src/rows.rt.
use Rattle.std.proofs.Common.{◌≡◌, ℕ, ◌+◌, ◌<◌, List, length, map, All, ap, subst, ◌∙◌, arith}
use Rattle.std.proofs.lemmas.List.{map-id}
use Rattle.coding.specs.Field.{alpha, power}
use Rattle.coding.specs.Words.{IsByte, value}
use Rattle.coding.specs.Rows.{line, place, column}
use Rattle.rs_lanes.proofs.ColumnLemmas.{transposed_row}
use Rattle.rs_lanes.proofs.rows.row_values_by.Goals as goal

-- a lane of the transposed rows is its row
same : (rows transposed : List (List ℕ)) (top n : ℕ) → length transposed ≡ 182
    → length (line (map (λ row. row) rows) (top + n)) ≡ 182
    → ((k : ℕ) → k < 182 → place transposed k n ≡ place (map (λ row. row) rows) (top + n) k)
    → column transposed n ≡ line rows (top + n)
same rows transposed top n many size is =
    let whole = map-id rows in
    transposed_row transposed n (line rows (top + n)) many (subst (λ xs. length (line xs (top + n)) ≡ 182) whole size)
    (λ k inside. is k inside ∙ ap (λ xs. place xs (top + n) k) whole)

pub returns-clause-sizes : goal.returns-clause-sizes
returns-clause-sizes c = λ n below. subst (λ xs. length (line xs (c.args.top + n)) ≡ 182) (map-id c.args.rows.now) (c.transpose.ensures.sizes n below)

pub returns-clause-bytes : goal.returns-clause-bytes
returns-clause-bytes c = λ n below.
    subst (All IsByte)
    (same c.args.rows.now c.transpose.new.transposed c.args.top n (omega arith) (c.transpose.ensures.sizes n below) (λ k inside. c.transpose.ensures.transposed k n inside below))
    (c.values_by.ensures.bytes n below)

pub returns-clause-values : goal.returns-clause-values
returns-clause-values c = λ k n few below.
    c.values_by.ensures.values k n few below
    ∙ ap (λ word. value word (power alpha k))
    (same c.args.rows.now c.transpose.new.transposed c.args.top n (omega arith) (c.transpose.ensures.sizes n below) (λ p inside. c.transpose.ensures.transposed p n inside below))

pub returns-clause-transposed : goal.returns-clause-transposed
returns-clause-transposed c = λ k n inside below. c.transpose.ensures.transposed k n inside below ∙ ap (λ xs. place xs (c.args.top + n) k) (map-id c.args.rows.now)
