-- The proof of `new` in src/patches.rt.
use Rattle.std.proofs.Common.{◌≡◌, ◌≢◌, ◌≤◌, ◌∙◌, List, ℕ, length, take, get_or, sym, ap, subst, arith, rules, inl, inr, ◌<◌, length-take-le}
use Rattle.std.proofs.lemmas.List.Elements.{All-from_get_or}
use Rattle.std.proofs.lemmas.Bool.{cases_lt}
use Rattle.coding.specs.Field.{alpha, power}
use Rattle.coding.specs.Filling.{marked}
use Rattle.coding.specs.Rows.{column, place}
use Rattle.coding.specs.Words.{value}
use Rattle.rs_decode.specs.Patches.{patched}
use Rattle.rs_code.specs.Inner.PowerSums.{power_sum}
use Rattle.rs_code.proofs.Values.{value-byte}
use Rattle.rs_lanes.proofs.ColumnLemmas.{length-column, same_columns}
use Rattle.rs_decode.proofs.Fillings.{points-few, value-completed}
use Rattle.rs_decode.proofs.Marks.{point-nonzero}
use Rattle.rs_decode.proofs.patches.Patches.new.Goals as goal

pub left_over-requires-clause-nonzero : goal.left_over-requires-clause-nonzero
left_over-requires-clause-nonzero g c =
    let erasures = c.args.erasures.now in
    let points_are = c.deref.ensures.0 ∙ erasures.gathered in
    All-from_get_or (λ point. point ≢ 0) c.deref.result.now 0 (λ i. point-nonzero erasures.marks c.deref.result.now i points_are)

pub returns : goal.returns
returns g c = λ n word inside size same said k below.
    let erasures = c.args.erasures.now in
    let points = c.deref.result.now in
    let stored = c.loop-i.patches.bytes in
    let proposed = c.proposed-proposed.result in
    let points_are = c.deref.ensures.0 ∙ erasures.gathered in
    let count : length points ≡ marked erasures.marks = points-few erasures.marks points points_are in
    let points_same : c.in-Some.inverse.points.items ≡ points = erasures.same_points c.in-Some.inverse c.in-Some.is ∙ sym c.deref.ensures.0 in
    let few : length points ≤ 16 = search rules in
    let long : length proposed ≡ 16 = search rules in
    let bytes : List ℕ = take (length points) (column proposed n) in
    let fits : length bytes ≡ length points = length-take-le (length points) (column proposed n) (omega (arith, length-column proposed n, long, few)) in
    let alike : column stored n ≡ column proposed n =
    same_columns stored proposed n n (c.loop-i.invariant.size ∙ sym long)
    (λ i within. ap (λ (lanes : List ℕ). get_or lanes n 0) (c.loop-i.invariant.set i (omega (arith, within, c.loop-i.invariant.size)))) in
    ap (λ (m : ℕ). value (patched word erasures.marks (take m (column stored n))) (power alpha k)) (sym count)
    ∙ ap (λ (all : List ℕ). value (patched word erasures.marks (take (length points) all)) (power alpha k)) alike
    ∙ value-completed word erasures.marks bytes points k (size ∙ sym erasures.size) fits points_are
    (elim (cases_lt k (length points)) [
      | inl first ↦
          let byte : place c.args.values.now k n < 256 = subst (λ v. v < 256) (sym (same k below)) (value-byte word (power alpha k)) in
          sym (same k below) ∙ c.proposed-proposed.ensures k n (omega (arith, ap length points_same)) inside byte
          ∙ ap (λ (xs : List ℕ). power_sum (take (length xs) (column proposed n)) xs k) points_same
      | inr further ↦ sym (same k below) ∙ c.left_over.ensures.sums k n (omega arith) below inside said
    ])
