-- The proof of `inverse_columns` in src/inverse.rt.
use Rattle.std.proofs.Common.{◌≡◌, ◌≢◌, ◌+◌, ◌-◌, ◌<◌, ℕ, suc, length, length-set, get_or, get_or-take, replicate, subst, get_or-set_other, get_or-set_same, set, take, below_more, All, refl, sym, ap, ◌∙◌, add-one, arith}
use Rattle.std.proofs.lemmas.List.Elements.{All-from_get_or, All-get_or}
use Rattle.std.proofs.lemmas.Simd.{get_or-replicate}
use Rattle.std.specs.Simd.Lanes.{zip2}
use Rattle.coding.specs.Field.{plus, product, shifted}
use Rattle.coding.specs.Rows.{place}
use Rattle.coding.specs.Words.{IsByte, value}
use Rattle.rs_code.proofs.Values.{value-byte, value-more, value-nil}
use Rattle.rs_lanes.proofs.LaneLemmas.{HoldsLanes-splat, HoldsLanes-zip2}
use Rattle.rs_decode.specs.Inner.Inverse.{quotient}
use Rattle.rs_decode.proofs.InverseSums.{HasSums-inverse}
use Rattle.rs_decode.proofs.Quotients.{IsInverse-quotients, distances-vanish, get_or-quotient, quotient-nonzero, value-quotient}
use Rattle.rs_decode.proofs.inverse.inverse_columns.Goals as goal

pub loop-t-init : goal.loop-t-init
unfolding quotient
loop-t-init c = record {
  size = refl;
  wide = refl;
  high = refl;
  coefficients = λ i below. get_or-replicate {A = ℕ} 16 i 0 0 (omega arith) ∙ sym (value-nil (get_or c.args.points.now i 0));
  own = λ i below. get_or-replicate {A = ℕ} 16 i 0 0 (omega arith) ∙ sym (value-nil (get_or c.args.points.now i 0));
  set = λ m i none below. absurd (omega arith);
}

pub loop-t-preserved : goal.loop-t-preserved
loop-t-preserved c =
    let points = c.args.points.now in
    let n = length points in
    let t = c.loop-t.t in
    let locator = c.times_distances.result in
    let lanes = c.as_prefix.result in
    let before = c.loop-t.invariant in
    let more : t + 1 ≡ suc t = add-one t in
    let locator_size = c.times_distances.ensures.size in
    let inside : t < length locator = omega (arith, locator_size, c.requires.few) in
    let coefficient = get_or locator t 0 in
    let lane : (i : ℕ) → i < n → get_or lanes i 0 ≡ get_or points i 0 =
    λ i below. sym (get_or-take n lanes i 0 below) ∙ ap (λ xs. get_or xs i 0) c.as_prefix.ensures in
    let multiples : (i : ℕ) → i < n → (k : ℕ) → k < 8 → place c.multiples_of-multiples.result k i ≡ shifted (get_or points i 0) k =
    λ i below k bit. c.multiples_of-multiples.ensures k i bit (omega (arith, c.requires.few)) ∙ ap (λ a. shifted a k) (lane i below) in
    let values = HoldsLanes-splat 16 plus c.lane_products.result coefficient c.lane_products.ensures.size in
    let next = zip2 plus c.lane_products.result (replicate 16 coefficient) in
    let sums = HoldsLanes-zip2 16 plus c.lane_products-in-loop-t.result next c.lane_products-in-loop-t.ensures.size values.size in
    let coefficients : (i : ℕ) → i < n → get_or next i 0 ≡ value (take (t + 1) locator) (get_or points i 0) =
    λ i below.
    let x = get_or points i 0 in
    let byte : x < 256 = omega (arith, c.type_inv.points i) in
    values.each i (omega (arith, c.requires.few))
    ∙ ap (λ v. plus v coefficient)
    (c.lane_products.ensures.each i x (omega (arith, c.requires.few)) byte (multiples i below) ∙ ap (product x) (before.coefficients i below))
    ∙ sym (value-more locator t x inside (All-get_or IsByte locator t 0 inside c.times_distances.ensures.bytes)) in
    let place_inside : n - 1 - t < length c.loop-t.quotients = omega (arith, before.size, c.requires.few, c.loop-t-test.true) in
    record {
      size = length-set c.loop-t.quotients (n - 1 - t) next ∙ before.size;
      wide = values.size;
      high = sums.size;
      coefficients = coefficients;
      own = λ i below.
          let x = get_or points i 0 in
          let byte : x < 256 = omega (arith, c.type_inv.points i) in
          sums.each i (omega (arith, c.requires.few))
          ∙ rw (c.lane_products-in-loop-t.ensures.each i x (omega (arith, c.requires.few)) byte (multiples i below), before.own i below, coefficients i below) refl
          ∙ ap (λ m. plus (product x (value (quotient locator x t) x)) (value (take m locator) x)) more
          ∙ sym (value-quotient locator x t x) ∙ ap (λ m. value (quotient locator x m) x) (sym more);
      set = λ m i earlier below.
          below_more (λ m. place (set c.loop-t.quotients (n - 1 - t) next) (n - 1 - m) i ≡ value (take (m + 1) locator) (get_or points i 0)) t
          (λ m under. let other : n - 1 - m ≢ n - 1 - t = omega (arith, c.loop-t-test.true, under) in rw get_or-set_other (before.set m i under below))
          (rw get_or-set_same (coefficients i below)) m earlier;
    }

pub divided-requires-clause-bytes : goal.divided-requires-clause-bytes
divided-requires-clause-bytes c = λ k i inside below.
    let points = c.args.points.now in
    let n = length points in
    let back : n - 1 - (n - 1 - k) ≡ k = omega (arith, inside) in
    subst (λ v. v < 256) (sym (ap (λ m. place c.loop-t.quotients m i) (sym back) ∙ c.loop-t.invariant.set (n - 1 - k) i (omega (arith, inside, c.loop-t-test.false)) below))
    (value-byte (take (n - 1 - k + 1) c.times_distances.result) (get_or points i 0))

pub divided-requires-clause-nonzero : goal.divided-requires-clause-nonzero
divided-requires-clause-nonzero c = λ i below none.
    let points = c.args.points.now in
    let y = get_or points i 0 in
    let locator = c.times_distances.result in
    let all : c.loop-t.t ≡ length points = omega (arith, c.loop-t-test.false, c.loop-t.auto.t-end) in
    let polynomial = c.times_distances.ensures.product 1 (λ x. 1) (omega (arith, c.requires.few)) c.one.ensures.polynomial in
    quotient-nonzero points locator c.requires.distinct (All-from_get_or IsByte points 0 (λ k inside. omega (arith, c.type_inv.points k))) c.times_distances.ensures.bytes
    (omega (arith, c.times_distances.ensures.size, c.requires.few)) (distances-vanish points locator polynomial) (c.times_distances.ensures.first ∙ c.one.ensures.first) i below
    (ap (λ m. value (quotient locator y m) y) (sym all) ∙ sym (c.loop-t.invariant.own i below) ∙ none)

pub returns-clause-inverse : goal.returns-clause-inverse
returns-clause-inverse c =
    let points = c.args.points.now in
    let n = length points in
    let locator = c.times_distances.result in
    let before = c.loop-t.invariant in
    let all : c.loop-t.t ≡ n = omega (arith, c.loop-t-test.false, c.loop-t.auto.t-end) in
    let bytes : All IsByte points = All-from_get_or IsByte points 0 (λ k inside. omega (arith, c.type_inv.points k)) in
    let longer : n < length locator = omega (arith, c.times_distances.ensures.size, c.requires.few) in
    let vanish = distances-vanish points locator (c.times_distances.ensures.product 1 (λ x. 1) (omega (arith, c.requires.few)) c.one.ensures.polynomial) in
    let own : (i : ℕ) → i < n → get_or c.loop-t.derivative i 0 ≡ value (quotient locator (get_or points i 0) n) (get_or points i 0) =
    λ i below. before.own i below ∙ ap (λ m. value (quotient locator (get_or points i 0) m) (get_or points i 0)) all in
    IsInverse-quotients points locator c.requires.distinct bytes c.times_distances.ensures.bytes longer vanish c.loop-t.derivative c.loop-t.quotients c.divided.result own
    (λ i below none. quotient-nonzero points locator c.requires.distinct bytes c.times_distances.ensures.bytes longer vanish (c.times_distances.ensures.first ∙ c.one.ensures.first) i below
    (sym (own i below) ∙ none))
    (λ k i inside below.
    let y = get_or points i 0 in
    let m = n - 1 - k in
    let back : n - 1 - m ≡ k = omega (arith, inside) in
    ap (λ l. place c.loop-t.quotients l i) (sym back) ∙ before.set m i (omega (arith, inside, all)) below
    ∙ ap (λ l. value (take l locator) y) (add-one m) ∙ sym (get_or-quotient locator y n m (omega (arith, inside))))
    c.divided.ensures

pub returns-clause-sums : goal.returns-clause-sums
returns-clause-sums c =
    HasSums-inverse c.args.points.now c.divided.result c.requires.distinct (All-from_get_or IsByte c.args.points.now 0 (λ k below. omega (arith, c.type_inv.points k)))
    (returns-clause-inverse c)
