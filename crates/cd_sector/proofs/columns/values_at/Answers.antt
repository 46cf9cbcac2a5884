-- The proof of `values_at` in src/columns.rt.
use Rattle.std.proofs.Common.{◌≡◌, ℕ, ◌+◌, ◌<◌, ◌≤◌, List, [], length, take, get_or, refl, sym, ap, ap₂, subst, below_more, ◌∙◌, arith}
use Rattle.std.proofs.lemmas.List.{get_or_default, take_all}
use Rattle.std.proofs.lemmas.List.Elements.{All-from_get_or}
use Rattle.std.proofs.lemmas.Simd.{get_or-replicate}
use Rattle.coding.specs.Field.{alpha, plus, product}
use Rattle.coding.specs.Words.{IsByte, value}
use Rattle.coding.specs.Rows.{place, column}
use Rattle.rs_code.proofs.Values.{value-nil}
use Rattle.rs_lanes.specs.Inner.Lanes.{HasLanes}
use Rattle.rs_lanes.proofs.ColumnLemmas.{length-column, get_or-column}
use Rattle.cd_sector.proofs.ColumnWords.{sum-more, alpha-more}
use Rattle.cd_sector.proofs.columns.values_at.Goals as goal

pub loop-m-init : goal.loop-m-init
loop-m-init g c = record {
  bytes = λ i j none. absurd (omega arith);
  sums = record { size = refl; each = λ j below. get_or-replicate 32 j 0 0 below ∙ sym (value-nil 1) };
  values = record { size = refl; each = λ j below. get_or-replicate 32 j 0 0 below ∙ sym (value-nil alpha) };
}

pub loop-m-preserved : goal.loop-m-preserved
loop-m-preserved g c =
    let rows = c.args.rows.now in
    let m : ℕ = c.loop-m.m in
    let step = c.with_row.ensures in
    let next : (j : ℕ) → j < 32 → get_or c.load.result j 0 ≡ get_or (column rows (c.args.at + j)) m 0 =
    λ j below.
    c.load.ensures.each j below
    ∙ ap (λ (row : List ℕ). get_or row (c.args.at + j) 0) (c.index-rows-m.is ∙ get_or_default rows m c.index-rows-m.result [] (omega arith))
    ∙ sym (get_or-column rows (c.args.at + j) m) in
    let byte : (j : ℕ) → j < 32 → get_or (column rows (c.args.at + j)) m 0 < 256 =
    λ j below. subst (λ b. b < 256) (next j below) (step.bytes j below) in
    record {
      bytes = λ i j inside below.
          below_more (λ (k : ℕ). place rows k (c.args.at + j) < 256) m (λ k before. c.loop-m.invariant.bytes k j before below)
          (subst (λ b. b < 256) (get_or-column rows (c.args.at + j) m) (byte j below)) i inside;
      sums = record {
        size = step.sums.size;
        each = λ j below.
            step.sums.each j below
            ∙ ap₂ plus (c.loop-m.invariant.sums.each j below) (next j below)
            ∙ sum-more (column rows (c.args.at + j)) m (omega (arith, length-column rows (c.args.at + j))) (byte j below);
      };
      values = record {
        size = step.values.size;
        each = λ j below.
            step.values.each j below
            ∙ ap₂ (λ (b v : ℕ). plus b (product v 2)) (next j below) (c.loop-m.invariant.values.each j below)
            ∙ alpha-more (column rows (c.args.at + j)) m (omega (arith, length-column rows (c.args.at + j))) (byte j below);
      };
    }

pub returns-clause-bytes : goal.returns-clause-bytes
returns-clause-bytes g c = λ j below.
    let word : List ℕ = column c.args.rows.now (c.args.at + j) in
    All-from_get_or IsByte word 0
    (λ i inside. subst (λ b. b < 256) (sym (get_or-column c.args.rows.now (c.args.at + j) i))
    (c.loop-m.invariant.bytes i j (omega (arith, length-column c.args.rows.now (c.args.at + j))) below))

-- once all rows were read, the values are those of the whole columns
whole : (rows : List (List ℕ)) (at m point : ℕ) (lanes : List ℕ) → length rows ≤ m
    → HasLanes lanes (λ j. value (take m (column rows (at + j))) point) → HasLanes lanes (λ j. value (column rows (at + j)) point)
whole rows at m point lanes past has = record {
  size = has.size;
  each = λ j below.
      has.each j below ∙ ap (λ (l : List ℕ). value l point) (take_all m (column rows (at + j)) (omega (arith, length-column rows (at + j))));
}

pub returns-clause-sums : goal.returns-clause-sums
returns-clause-sums g c = whole c.args.rows.now c.args.at c.loop-m.m 1 c.loop-m.sum (omega arith) c.loop-m.invariant.sums

pub returns-clause-values : goal.returns-clause-values
returns-clause-values g c = whole c.args.rows.now c.args.at c.loop-m.m alpha c.loop-m.value (omega arith) c.loop-m.invariant.values
