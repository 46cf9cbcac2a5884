-- The proof of `with_sum` in src/patches.rt.
use Rattle.std.proofs.Common.{◌≡◌, ◌-◌, ◌*◌, ◌∙◌, ℕ, suc, List, length, drop, take, get_or, get_or-take, length-take-le, sym, ap, arith}
use Rattle.coding.specs.Field.{alpha, plus, power, product}
use Rattle.coding.specs.Rows.{column, place}
use Rattle.gf_field.proofs.FieldLaws.{plus-assoc, plus-zero, product-comm}
use Rattle.rs_code.specs.Inner.PowerSums.{power_sum}
use Rattle.rs_lanes.proofs.ColumnLemmas.{get_or-column, length-column}
use Rattle.rs_decode.proofs.LaneSums.{power_sum-end, power_sum-lane}
use Rattle.rs_decode.proofs.patches.with_sum.Goals as goal

pub loop-i-init : goal.loop-i-init
loop-i-init c = record {
  added = λ n inside.
      let points = c.args.points.now in
      let all = column c.args.bytes.now n in
      let fits : length (take (length points) all) ≡ length points =
      length-take-le (length points) all (omega (arith, length-column c.args.bytes.now n, c.told-bytes, c.requires.few)) in
      let v : ℕ = get_or c.args.value n 0 in
      sym (ap (plus v) (power_sum-end (take (length points) all) points c.args.k fits) ∙ plus-zero v);
}

pub loop-i-preserved : goal.loop-i-preserved
loop-i-preserved c = record {
  added = λ n inside.
      let k = c.args.k in
      let points = c.args.points.now in
      let all = column c.args.bytes.now n in
      let prefix : List ℕ = take (length points) all in
      let i = c.loop-i.i - 1 in
      let up : suc i ≡ c.loop-i.i = omega arith in
      let v : ℕ = get_or c.args.value n 0 in
      let sum : ℕ = power_sum (drop c.loop-i.i prefix) (drop c.loop-i.i points) k in
      let term : ℕ = product (place c.args.bytes.now i n) (get_or c.powers.result k 0) in
      let fits : length prefix ≡ length points =
      length-take-le (length points) all (omega (arith, length-column c.args.bytes.now n, c.told-bytes, c.requires.few)) in
      let here : get_or prefix i 0 ≡ place c.args.bytes.now i n = get_or-take (length points) all i 0 (omega arith) ∙ get_or-column c.args.bytes.now n i in
      let is_term : term ≡ product (power alpha (c.log.result * k)) (get_or prefix i 0) =
      product-comm (place c.args.bytes.now i n) (get_or c.powers.result k 0)
      ∙ ap (λ p. product p (place c.args.bytes.now i n)) (c.powers.ensures.each k c.requires.inside)
      ∙ ap (product (power alpha (c.log.result * k))) (sym here) in
      c.with_multiple-sum.ensures.each n inside ∙ ap (λ s. plus s term) (c.loop-i.invariant.added n inside) ∙ plus-assoc v sum term
      ∙ ap (plus v)
      (power_sum-lane prefix points i k c.log.result sum term (omega (arith, fits)) (omega arith) c.log.ensures.reaches
      (ap (λ m. power_sum (drop m prefix) (drop m points) k) (sym up)) is_term);
}

pub returns : goal.returns
returns c = λ n inside.
    let prefix : List ℕ = take (length c.args.points.now) (column c.args.bytes.now n) in
    let done : c.loop-i.i ≡ 0 = omega arith in
    c.loop-i.invariant.added n inside
    ∙ ap (λ m. plus (get_or c.args.value n 0) (power_sum (drop m prefix) (drop m c.args.points.now) c.args.k)) done
