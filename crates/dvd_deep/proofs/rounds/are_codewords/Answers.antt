-- The proof of `are_codewords` in src/rounds.rt.
use Rattle.std.proofs.Common.{◌≡◌, ◌+◌, ℕ, Bool, List, [], true, false, length, refl, sym, subst, arith}
use Rattle.std.proofs.lemmas.Bool.{both_ways}
use Rattle.std.proofs.lemmas.List.Sums.{AllPass-from_list_all, list_all-from_AllPass}
use Rattle.std.proofs.lemmas.List.{get_or_default}
use Rattle.coding.specs.Nearest.{vanishes_at_all}
use Rattle.coding.specs.Product.{line}
use Rattle.rs_lanes.proofs.ColumnLemmas.{group_more}
use Rattle.dvd_deep.proofs.rounds.are_codewords.Goals as goal

-- a test that can't pass fails
refused : (test : Bool) → (test ≡ true → ⊥) → false ≡ test
refused true never = absurd (never refl)
refused false never = refl

pub returns-then-not-group_are_codewords : goal.returns-then-not-group_are_codewords
returns-then-not-group_are_codewords c =
    let rows : List (List ℕ) = c.args.rows.now in
    let height : length rows ≡ 208 = c.told-rows in
    refused _ (λ all.
    both_ways _ c.if-not-group_are_codewords.true
    (c.group_are_codewords.ensures.1 (λ n below. AllPass-from_list_all (vanishes_at_all 10) rows all (c.min.result + n) [] (omega (arith, height)))))

pub loop-group-preserved : goal.loop-group-preserved
loop-group-preserved c = λ k below inside.
    group_more (λ (i : ℕ). vanishes_at_all 10 (line c.args.rows.now i) ≡ true) c.min.result
    (λ i under. c.loop-group.invariant i (omega arith) (omega arith))
    (c.group_are_codewords.ensures.0 c.if-not-group_are_codewords.false) k (omega arith)

pub returns : goal.returns
returns c =
    let rows : List (List ℕ) = c.args.rows.now in
    let height : length rows ≡ 208 = c.told-rows in
    sym (list_all-from_AllPass (vanishes_at_all 10) rows
    (λ k d within.
    subst (λ (row : List ℕ). vanishes_at_all 10 row ≡ true) (sym (get_or_default rows k d [] within))
    (c.loop-group.invariant k (omega (arith, height)) (omega (arith, height)))))
