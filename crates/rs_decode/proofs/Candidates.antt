-- Registers whose taps are in a vector, and their connections from a place on in another: at the start, with a
-- multiple of another added, and shifted.
use Rattle.std.proofs.Common.{◌≡◌, ◌≢◌, ℕ, zero, suc, ◌+◌, ◌-◌, ◌*◌, ◌<◌, ◌≤◌, List, ◌∷◌, length, get_or, get_or-take, replicate, take, refl, sym, ap, subst, ◌∙◌, add-one, arith}
use Rattle.std.proofs.lemmas.Grind.{same_number_lists}
use Rattle.coding.specs.Field.{plus, product}
use Rattle.gf_field.proofs.FieldLaws.{one-product, plus-zero, product-comm, product-one, product-zero, zero-product}
use Rattle.rs_code.specs.Inner.Polynomials.{sum_of, mul_scalar}
use Rattle.rs_code.proofs.Values.{length-sum_of, length-mul_scalar, get_or-sum_of, get_or-mul_scalar, mul_scalar-cons}
use Rattle.rs_lanes.specs.Inner.Lanes.{HasLanes}
use Rattle.rs_decode.specs.Register.{connection}
use Rattle.rs_decode.proofs.Connections.{connection-later, connection-longer, connection-mul_scalar, connection-sum_of, connection-total}
use Rattle.rs_decode.proofs.Registers.{FailsAt, IsShortestTo, FailsAt-start, FailsAt-times_x, IsShortestTo-start, Leaves, Leaves-longer, Leaves-corrected, Leaves-stays, zeros-start}
use Rattle.rs_decode.proofs.Totals.{total-first}

-- the connection of the first tap alone, where all others are 0
connection-first : (taps seq : List ℕ) (n : ℕ) → ((c : ℕ) → 0 < c → get_or taps c 0 ≡ 0)
    → connection n taps seq n ≡ product (get_or taps 0 0) (get_or seq n 0)
connection-first taps seq n zeros =
    let here : n - 0 ≡ n = omega arith in
    connection-total n taps seq n
    ∙ total-first n (λ i. product (get_or taps i 0) (get_or seq (n - i) 0))
    (λ i above within. ap (λ x. product x (get_or seq (n - i) 0)) (zeros i above) ∙ zero-product (get_or seq (n - i) 0))
    ∙ ap (λ k. product (get_or taps 0 0) (get_or seq k 0)) here

-- Lane k is the connection k places after n, where the list has such a place. Of taps that reach further back than the
-- list begins, those count that don't.
abbrev pub HasConnections : ℕ → List ℕ → List ℕ → List ℕ → Type 0
HasConnections n taps seq lanes = (k : ℕ) → n + k < length seq → get_or lanes k 0 ≡ connection (n + k) taps seq (n + k)

-- at the first place, lane k is the connection at place k
at_start : (taps seq lanes : List ℕ) → ((k : ℕ) → k < length seq → get_or lanes k 0 ≡ connection k taps seq k) → HasConnections 0 taps seq lanes
at_start taps seq lanes are k below =
    let same : 0 + k ≡ k = omega arith in
    rw same (are k (omega arith))

-- 1 has the list itself for its connections
connection-start : (seq lanes : List ℕ) → ((k : ℕ) → k < length seq → get_or seq k 0 < 256) → take (length seq) lanes ≡ seq → (k : ℕ) → k < length seq
    → get_or lanes k 0 ≡ connection k (1 ∷ replicate 32 0) seq k
connection-start seq lanes bytes first_lanes k below =
    sym (get_or-take (length seq) lanes k 0 below) ∙ ap (λ xs. get_or xs k 0) first_lanes
    ∙ sym (one-product (get_or seq k 0) (bytes k below)) ∙ sym (connection-first (1 ∷ replicate 32 0) seq k zeros-start)

-- and x the list, moved up by a place
connection-start_x : (taps seq lanes : List ℕ) → length seq ≤ 32 → ((k : ℕ) → k < length seq → get_or lanes k 0 ≡ connection k (1 ∷ replicate 32 0) seq k)
    → ((k : ℕ) → k + 1 < 33 → get_or (0 ∷ taps) (k + 1) 0 ≡ get_or {A = ℕ} (1 ∷ replicate 32 0) k 0) → (k : ℕ) → k < length seq
    → get_or (0 ∷ lanes) k 0 ≡ connection k (0 ∷ taps) seq k
connection-start_x taps seq lanes few are tap zero below =
    sym (connection-total 0 (0 ∷ taps) seq 0
    ∙ total-first 0 (λ i. product (get_or (0 ∷ taps) i 0) (get_or seq (0 - i) 0)) (λ i above within. absurd (omega arith))
    ∙ zero-product (get_or seq (0 - 0) 0))
connection-start_x taps seq lanes few are tap (suc k) below =
    let place : suc k ≡ 1 + k = omega arith in
    are k (omega arith)
    ∙ sym (ap (λ m. connection m (0 ∷ taps) seq m) place
    ∙ connection-later k 1 (0 ∷ taps) (1 ∷ replicate 32 0) seq k
    (λ i within. let none : i ≡ 0 = omega arith in ap (λ j. get_or (0 ∷ taps) j 0) none)
    (λ i within. let next : 1 + i ≡ i + 1 = omega arith in ap (λ j. get_or (0 ∷ taps) j 0) next ∙ tap i (omega arith)))

-- the first lane is what the register fails by
pub HasConnections-here : (n len : ℕ) (taps seq lanes : List ℕ) → IsShortestTo n len taps seq → n < length seq → HasConnections n taps seq lanes
    → get_or lanes 0 0 ≡ connection len taps seq n
HasConnections-here n len taps seq lanes is inside are =
    let here : n + 0 ≡ n = omega arith in
    are 0 (omega arith) ∙ ap (λ k. connection k taps seq k) here ∙ connection-longer len n taps seq n is.within is.higher

-- lanes moved down by one are those at the next place
pub HasConnections-next : (n : ℕ) (taps seq lanes moved : List ℕ) → length seq ≤ 32 → HasConnections n taps seq lanes
    → ((k : ℕ) → k < 31 → get_or moved k 0 ≡ get_or lanes (k + 1) 0) → HasConnections (n + 1) taps seq moved
HasConnections-next n taps seq lanes moved few are down k below =
    let place : n + (k + 1) ≡ n + 1 + k = omega arith in
    down k (omega arith) ∙ are (k + 1) (omega arith) ∙ ap (λ m. connection m taps seq m) place

-- taps moved up by one have at the next place the connections that they had
pub HasConnections-moved : (n : ℕ) (taps moved seq lanes : List ℕ) → length seq ≤ 32 → get_or moved 0 0 ≡ 0
    → ((k : ℕ) → k + 1 < 33 → get_or moved (k + 1) 0 ≡ get_or taps k 0) → HasConnections n taps seq lanes → HasConnections (n + 1) moved seq lanes
HasConnections-moved n taps moved seq lanes few first others are k below =
    let place : n + 1 + k ≡ 1 + (n + k) = omega arith in
    are k (omega arith)
    ∙ sym (ap (λ m. connection m moved seq m) place
    ∙ connection-later (n + k) 1 moved taps seq (n + k)
    (λ i within. let none : i ≡ 0 = omega arith in ap (λ j. get_or moved j 0) none ∙ first)
    (λ i within. let next : 1 + i ≡ i + 1 = omega arith in ap (λ j. get_or moved j 0) next ∙ others i (omega arith)))

-- a multiple of another register's taps is added to its connections too
pub HasConnections-corrected : (n factor : ℕ) (taps others seq lanes other_lanes sums : List ℕ) → length seq ≤ 32 → length taps ≡ length others
    → HasConnections n taps seq lanes → HasConnections n others seq other_lanes
    → HasLanes sums (λ k. plus (get_or lanes k 0) (product (get_or other_lanes k 0) factor)) → HasConnections n (sum_of taps (mul_scalar factor others)) seq sums
HasConnections-corrected n factor taps others seq lanes other_lanes sums few same are others_are is k below =
    let m = n + k in
    is.each k (omega arith)
    ∙ rw (are k below, others_are k below, product-comm (connection m others seq m) factor) refl
    ∙ sym (connection-sum_of m taps (mul_scalar factor others) seq m (same ∙ sym (length-mul_scalar factor others))
    ∙ ap (plus (connection m taps seq m)) (connection-mul_scalar m factor others seq m))

-- each tap with the multiple of another's, the first of both included
tap-corrected : (factor : ℕ) (taps others sums : List ℕ) → HasLanes sums (λ k. plus (get_or taps k 0) (product (get_or others k 0) factor)) → (k : ℕ) → k < 33
    → get_or (1 ∷ sums) k 0 ≡ plus (get_or (1 ∷ taps) k 0) (product factor (get_or (0 ∷ others) k 0))
tap-corrected factor taps others sums is zero below = sym (ap (plus 1) (product-zero factor) ∙ plus-zero 1)
tap-corrected factor taps others sums is (suc k) below = is.each k (omega arith) ∙ ap (plus (get_or taps k 0)) (product-comm (get_or others k 0) factor)

-- all taps with the multiple of another's
pub taps_mended : (factor : ℕ) (taps others sums : List ℕ) → length taps ≡ 32 → length others ≡ 32
    → HasLanes sums (λ k. plus (get_or taps k 0) (product (get_or others k 0) factor)) → 1 ∷ sums ≡ sum_of (1 ∷ taps) (mul_scalar factor (0 ∷ others))
taps_mended factor taps others sums size others_size is =
    let all = mul_scalar factor (0 ∷ others) in
    let all_size : length all ≡ 33 = length-mul_scalar factor (0 ∷ others) ∙ ap suc others_size in
    let same : length (1 ∷ taps) ≡ length all = ap suc size ∙ sym all_size in
    same_number_lists (1 ∷ sums) (sum_of (1 ∷ taps) all) (ap suc is.size ∙ sym (length-sum_of (1 ∷ taps) all same ∙ ap suc size))
    (λ k inside.
    tap-corrected factor taps others sums is k (omega (arith, is.size))
    ∙ sym (get_or-sum_of (1 ∷ taps) all k same ∙ ap (plus (get_or (1 ∷ taps) k 0)) (get_or-mul_scalar factor (0 ∷ others) k)))

-- a multiple's connections are the multiples
pub HasConnections-mul_scalar : (n factor : ℕ) (taps seq lanes multiples : List ℕ) → length seq ≤ 32 → HasConnections n taps seq lanes
    → HasLanes multiples (λ k. product (get_or lanes k 0) factor) → HasConnections n (mul_scalar factor taps) seq multiples
HasConnections-mul_scalar n factor taps seq lanes multiples few are is k below =
    is.each k (omega arith) ∙ ap (λ x. product x factor) (are k below) ∙ product-comm (connection (n + k) taps seq (n + k)) factor
    ∙ sym (connection-mul_scalar (n + k) factor taps seq (n + k))

-- the taps of a multiple, the first of which was 1
pub taps_scaled : (factor : ℕ) (taps multiples : List ℕ) → factor < 256 → length taps ≡ 32 → HasLanes multiples (λ k. product (get_or taps k 0) factor)
    → factor ∷ multiples ≡ mul_scalar factor (1 ∷ taps)
taps_scaled factor taps multiples byte size is =
    let rest : multiples ≡ mul_scalar factor taps =
    same_number_lists multiples (mul_scalar factor taps) (is.size ∙ sym (length-mul_scalar factor taps ∙ size))
    (λ k inside. is.each k (omega (arith, is.size)) ∙ product-comm (get_or taps k 0) factor ∙ sym (get_or-mul_scalar factor taps k)) in
    rw (mul_scalar-cons factor 1 taps, product-one factor byte, rest) refl

-- with a byte in front each number is one place later
pub get_or-after : (first : ℕ) (lanes : List ℕ) (k : ℕ) → get_or (first ∷ lanes) (k + 1) 0 ≡ get_or lanes k 0
get_or-after first lanes k = rw (add-one k) refl

-- at place n: the register at hand, the earlier one, which fails there by 1, and the connections of both from there on
pub record IsAt (n len : ℕ) (taps earlier seq connections others : List ℕ) : Type 0 where
  pub shortest : IsShortestTo n len (1 ∷ taps) seq
  pub fails : FailsAt n (n + 1 - len) 1 (0 ∷ earlier) seq
  pub connections_are : HasConnections n (1 ∷ taps) seq connections
  pub others_are : HasConnections n (0 ∷ earlier) seq others

-- what the place leaves, before both move on to the next
pub record IsLeft (n len first : ℕ) (taps earlier seq connections others : List ℕ) : Type 0 where
  pub leaves : Leaves n len (1 ∷ taps) (first ∷ earlier) seq
  pub connections_are : HasConnections n (1 ∷ taps) seq connections
  pub others_are : HasConnections n (first ∷ earlier) seq others

-- at the first place
pub IsAt-start : (earlier seq lanes moved : List ℕ) → length seq ≤ 32 → ((k : ℕ) → k < length seq → get_or seq k 0 < 256) → take (length seq) lanes ≡ seq
    → HasLanes earlier (λ k. get_or {A = ℕ} (1 ∷ replicate 32 0) k 0) → HasLanes moved (λ k. get_or (0 ∷ lanes) k 0)
    → IsAt 0 0 (replicate 32 0) earlier seq lanes moved
IsAt-start earlier seq lanes moved few bytes first_lanes is_x is_moved =
    let tap : (k : ℕ) → k + 1 < 33 → get_or (0 ∷ earlier) (k + 1) 0 ≡ get_or {A = ℕ} (1 ∷ replicate 32 0) k 0 = λ k below.
    get_or-after 0 earlier k ∙ is_x.each k (omega arith) in
    let are = connection-start seq lanes bytes first_lanes in
    record {
      shortest = IsShortestTo-start seq;
      fails = FailsAt-start (0 ∷ earlier) seq (ap suc is_x.size) tap;
      connections_are = at_start (1 ∷ replicate 32 0) seq lanes are;
      others_are = at_start (0 ∷ earlier) seq moved (λ k below. is_moved.each k (omega arith) ∙ connection-start_x earlier seq lanes few are tap k below);
    }

-- at the next place
pub IsAt-next : (n len first : ℕ) (taps earlier seq connections others down up : List ℕ) → length seq ≤ 32 → n < length seq
    → ((k : ℕ) → k < 31 → get_or down k 0 ≡ get_or connections (k + 1) 0) → HasLanes up (λ k. get_or (first ∷ earlier) k 0)
    → IsLeft n len first taps earlier seq connections others → IsAt (n + 1) len taps up seq down others
IsAt-next n len first taps earlier seq connections others down up few inside is_down is_up left =
    let leaves = left.leaves in
    let reach : n + 1 - len + 1 ≡ n + 1 + 1 - len = omega (arith, leaves.0.within) in
    let tap : (k : ℕ) → k + 1 < 33 → get_or (0 ∷ up) (k + 1) 0 ≡ get_or (first ∷ earlier) k 0 = λ k below.
    get_or-after 0 up k ∙ is_up.each k (omega arith) in
    record {
      shortest = leaves.0;
      fails = subst (λ r. FailsAt (n + 1) r 1 (0 ∷ up) seq) reach
          (FailsAt-times_x n (n + 1 - len) 1 (first ∷ earlier) (0 ∷ up) seq leaves.1 (omega arith) (ap suc is_up.size) refl tap);
      connections_are = HasConnections-next n (1 ∷ taps) seq connections down few left.connections_are is_down;
      others_are = HasConnections-moved n (first ∷ earlier) (0 ∷ up) seq others few refl tap left.others_are;
    }

module _ (n len : ℕ) (taps earlier seq connections others : List ℕ) (few : length seq ≤ 32) (inside : n < length seq)
    (at : IsAt n len taps earlier seq connections others) where
  -- the first connection is what the register fails by
  found_is : get_or connections 0 0 ≡ connection len (1 ∷ taps) seq n
  found_is = HasConnections-here n len (1 ∷ taps) seq connections at.shortest inside at.connections_are

  -- the register stays
  pub IsLeft-stays : get_or connections 0 0 ≡ 0 → IsLeft n len 0 taps earlier seq connections others
  IsLeft-stays none = record {
    leaves = Leaves-stays n len (1 ∷ taps) (0 ∷ earlier) seq at.shortest at.fails (sym found_is ∙ none);
    connections_are = at.connections_are;
    others_are = at.others_are;
  }

  module _ (found : ℕ) (sums sum_connections : List ℕ) (is_found : found ≡ get_or connections 0 0) (nonzero : found ≢ 0)
      (sums_are : HasLanes sums (λ k. plus (get_or taps k 0) (product (get_or earlier k 0) found)))
      (sum_connections_are : HasLanes sum_connections (λ k. plus (get_or connections k 0) (product (get_or others k 0) found))) where
    -- the taps with the multiple
    taps_are : sum_of (1 ∷ taps) (mul_scalar found (0 ∷ earlier)) ≡ 1 ∷ sums
    taps_are = sym (taps_mended found taps earlier sums (omega (arith, at.shortest.size)) (omega (arith, at.fails.size)) sums_are)

    -- and their connections
    are_mended : HasConnections n (1 ∷ sums) seq sum_connections
    are_mended =
        subst (λ all. HasConnections n all seq sum_connections) taps_are
        (HasConnections-corrected n found (1 ∷ taps) (0 ∷ earlier) seq connections others sum_connections few (at.shortest.size ∙ sym at.fails.size)
        at.connections_are at.others_are sum_connections_are)

    -- it is corrected, and stays as long
    pub IsLeft-corrected : n < 2 * len → IsLeft n len 0 sums earlier seq sum_connections others
    IsLeft-corrected long = record {
      leaves = subst (λ all. Leaves n len all (0 ∷ earlier) seq) taps_are
          (Leaves-corrected n len (1 ∷ taps) (0 ∷ earlier) seq at.shortest at.fails found refl (is_found ∙ found_is) nonzero long);
      connections_are = are_mended;
      others_are = at.others_are;
    }

    -- it is corrected, and gets longer; as it was, a multiple of it is the earlier one from now on
    pub IsLeft-longer : (factor : ℕ) (multiples multiple_connections : List ℕ) → product found factor ≡ 1 → factor < 256
        → HasLanes multiples (λ k. product (get_or taps k 0) factor) → HasLanes multiple_connections (λ k. product (get_or connections k 0) factor) → 2 * len ≤ n
        → IsLeft n (n + 1 - len) factor sums multiples seq sum_connections multiple_connections
    IsLeft-longer factor multiples multiple_connections inverse byte multiples_are multiple_connections_are short =
        let all_are : mul_scalar factor (1 ∷ taps) ≡ factor ∷ multiples = sym (taps_scaled factor taps multiples byte (omega (arith, at.shortest.size)) multiples_are) in
        record {
          leaves = subst (λ all. Leaves n (n + 1 - len) all (factor ∷ multiples) seq) taps_are
              (subst (λ all. Leaves n (n + 1 - len) (sum_of (1 ∷ taps) (mul_scalar found (0 ∷ earlier))) all seq) all_are
              (Leaves-longer n len (1 ∷ taps) (0 ∷ earlier) seq at.shortest at.fails found refl (is_found ∙ found_is) nonzero factor inverse short));
          connections_are = are_mended;
          others_are = subst (λ all. HasConnections n all seq multiple_connections) all_are
              (HasConnections-mul_scalar n factor (1 ∷ taps) seq connections multiple_connections few at.connections_are multiple_connections_are);
        }
