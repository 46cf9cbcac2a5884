-- The proof of `left_over` in src/patches.rt.
use Rattle.std.proofs.Common.{◌≡◌, ◌≢◌, ◌∙◌, ◌<◌, ◌≤◌, length, length-set, set, take, get_or-set_other, get_or-set_same, below_more, sym, refl, arith}
use Rattle.coding.specs.Field.{plus}
use Rattle.coding.specs.Rows.{column, place}
use Rattle.gf_field.proofs.FieldLaws.{plus-zero_same}
use Rattle.rs_code.specs.Inner.PowerSums.{power_sum}
use Rattle.rs_decode.proofs.patches.left_over.Goals as goal

pub loop-k-init : goal.loop-k-init
loop-k-init c = record {
  size = refl;
  sums = λ k n reached below inside. absurd (omega arith);
}

pub loop-k-preserved : goal.loop-k-preserved
loop-k-preserved c =
    let at = c.loop-k.k in
    let points = c.args.points.now in
    let values = c.args.values.now in
    let bytes = c.args.bytes.now in
    let left = c.loop-k.left in
    let before = c.loop-k.invariant in
    let within : at < length left = omega arith in
    record {
      size = length-set left at c.with_sum.result ∙ before.size;
      sums = λ k n reached below inside.
          below_more (λ m. length points ≤ m → place (set left at c.with_sum.result) m n ≡ plus (place values m n) (power_sum (take (length points) (column bytes n)) points m)) at
          (λ m earlier from. let other : m ≢ at = omega arith in rw get_or-set_other (before.sums m n from earlier inside))
          (λ from. rw get_or-set_same (c.with_sum.ensures n inside))
          k below reached;
    }

pub returns-clause-sums : goal.returns-clause-sums
returns-clause-sums c = λ k n reached below inside zero_is.
    plus-zero_same (place c.args.values.now k n) (power_sum (take (length c.args.points.now) (column c.args.bytes.now n)) c.args.points.now k)
    (sym (c.loop-k.invariant.sums k n reached (omega arith) inside) ∙ (c.any_of.ensures.zeros n inside).0 zero_is k below)
