-- The proof of `proposed` in src/patches.rt.
use Rattle.std.proofs.Common.{◌≡◌, ◌<◌, ℕ, List, length, take, replicate, get_or, get_or-take, length-take-le, sym, ap, ◌∙◌, arith, inl, inr}
use Rattle.std.proofs.lemmas.Bool.{cases_lt}
use Rattle.std.proofs.lemmas.Simd.{get_or-replicate}
use Rattle.coding.specs.Field.{plus, product}
use Rattle.coding.specs.Rows.{column, place}
use Rattle.gf_field.proofs.FieldLaws.{zero-plus}
use Rattle.rs_lanes.proofs.ColumnLemmas.{get_or-column, length-column}
use Rattle.rs_decode.specs.Register.{total}
use Rattle.rs_decode.proofs.InverseSums.{power_sum-made}
use Rattle.rs_decode.proofs.patches.proposed.Goals as goal
use Rattle.rs_decode.proofs.patches.proposed.Goals.{After-add_columns-2}

-- the vectors are sums of multiples, whichever half they are in
made : (c : After-add_columns-2) → (i n : ℕ) → i < 16 → n < 32
    → place c.add_columns-2.new.sums i n ≡ total (length c.args.inverse.now.points.items) (λ k. product (place c.args.values.now k n) (place c.args.inverse.now.columns k i))
made c i n inside below =
    let sum = total (length c.args.inverse.now.points.items) (λ k. product (place c.args.values.now k n) (place c.args.inverse.now.columns k i)) in
    let none : place (replicate 16 (replicate {A = ℕ} 32 0)) i n ≡ 0 =
    ap (λ (lanes : List ℕ). get_or lanes n 0) (get_or-replicate 16 i _ _ inside) ∙ get_or-replicate 32 n 0 0 below in
    elim (cases_lt i 8) [
      | inl lower ↦
          ap (λ (lanes : List ℕ). get_or lanes n 0) (c.add_columns-2.ensures.below i lower)
          ∙ c.add_columns.ensures.added i n (omega arith) (omega arith) below ∙ ap (λ v. plus v sum) none ∙ zero-plus sum
      | inr upper ↦
          c.add_columns-2.ensures.added i n upper (omega arith) below
          ∙ ap (λ v. plus v sum) (ap (λ (lanes : List ℕ). get_or lanes n 0) (c.add_columns.ensures.above i upper) ∙ none) ∙ zero-plus sum
    ]

pub returns : goal.returns
returns c = λ k n inside below byte.
    let inverse = c.args.inverse.now in
    let points = inverse.points.items in
    let vectors = c.add_columns-2.new.sums in
    let all : List ℕ = column vectors n in
    let long : length all ≡ 16 = length-column vectors n ∙ c.add_columns-2.ensures.size in
    let fits : length (take (length points) all) ≡ length points = length-take-le (length points) all (omega (arith, long, inverse.few)) in
    sym (power_sum-made points (take (length points) all) inverse.columns (λ l. place c.args.values.now l n) k inverse.sums fits
    (λ i within. get_or-take (length points) all i 0 within ∙ get_or-column vectors n i ∙ made c i n (omega (arith, within, inverse.few)) below)
    inside byte)
