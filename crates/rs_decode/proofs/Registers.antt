-- The steps of Berlekamp and Massey: a register stays, or is corrected by a multiple of an earlier one, and is the
-- shortest.
use Rattle.std.proofs.Common.{◌≡◌, ◌≢◌, ℕ, zero, suc, ◌+◌, ◌-◌, ◌*◌, ◌<◌, ◌≤◌, List, ◌∷◌, length, get_or, take, replicate, refl, sym, ap, subst, ◌∙◌, arith, inl, inr, below_more, get_or-take, length-take}
use Rattle.std.specs.Prelude.{All, slice_index}
use Rattle.std.proofs.lemmas.Bool.{cases_lt}
use Rattle.std.proofs.lemmas.List.{length-replicate, get_or_past}
use Rattle.std.proofs.lemmas.List.Elements.{All-cons, All-replicate, All-take}
use Rattle.coding.specs.Field.{plus, product}
use Rattle.coding.specs.Words.{IsByte}
use Rattle.gf_field.proofs.FieldLaws.{plus-self, plus-zero, product-comm, product-one, product-zero}
use Rattle.rs_code.specs.Inner.Polynomials.{sum_of, mul_scalar}
use Rattle.rs_code.proofs.Distance.{All-sum_of}
use Rattle.rs_code.proofs.Remainders.{All-mul_scalar}
use Rattle.rs_code.proofs.Values.{length-sum_of, length-mul_scalar, get_or-sum_of, get_or-mul_scalar}
use Rattle.rs_lanes.proofs.ParityLemmas.{get_or-zeros}
use Rattle.rs_decode.specs.Register.{Generates, IsLeast, connection}
use Rattle.rs_decode.proofs.Connections.{Makes, connection-byte, connection-same, connection-longer, connection-later, connection-sum_of, connection-mul_scalar, connections-agree}

-- after the first tap at the start there are zeros
pub zeros-start : (c : ℕ) → 0 < c → get_or {A = ℕ} (1 ∷ replicate 32 0) c 0 ≡ 0
zeros-start zero above = absurd (omega arith)
zeros-start (suc c) above = get_or-zeros 32 c

-- the register at hand at place n, its taps followed by zeros: no shorter one makes the numbers before n
pub record IsShortestTo (n len : ℕ) (taps seq : List ℕ) : Type 0 where
  pub size : length taps ≡ 33
  pub bytes : All IsByte taps
  pub within : len ≤ n
  pub first : slice_index taps 0 ≡ 1
  pub higher : (c : ℕ) → len < c → slice_index taps c ≡ 0
  pub makes : Makes len taps seq n
  pub least : (other : ℕ) (others : List ℕ) → other ≤ n → slice_index others 0 ≡ 1 → Makes other others seq n → len ≤ other

-- taps that make the numbers before n and fail at n, by this connection, if they reach it
pub record FailsAt (n len failure : ℕ) (taps seq : List ℕ) : Type 0 where
  pub size : length taps ≡ 33
  pub higher : (c : ℕ) → len < c → slice_index taps c ≡ 0
  pub makes : Makes len taps seq n
  pub here : len ≤ n → connection len taps seq n ≡ failure

-- before the first number, the register of length 0 is the shortest
pub IsShortestTo-start : (seq : List ℕ) → IsShortestTo 0 0 (1 ∷ replicate 32 0) seq
IsShortestTo-start seq = record {
  size = ap suc (length-replicate {A = ℕ} 32 0);
  bytes = All-cons IsByte 1 (replicate 32 0) (omega arith) (All-replicate IsByte 32 0 (omega arith));
  within = omega arith;
  first = refl;
  higher = zeros-start;
  makes = λ k reached below. absurd (omega arith);
  least = λ other others within first makes. omega arith;
}

-- x takes the place of an earlier register; it reaches no number
pub FailsAt-start : (taps seq : List ℕ) → length taps ≡ 33 → ((k : ℕ) → k + 1 < 33 → get_or taps (k + 1) 0 ≡ get_or {A = ℕ} (1 ∷ replicate 32 0) k 0)
    → FailsAt 0 1 1 taps seq
FailsAt-start taps seq size moved = record {
  size = size;
  higher = λ c above.
      let next : c ≡ (c - 1) + 1 = omega arith in
      elim (cases_lt c 33) [
        | inl inside ↦ ap (λ j. get_or taps j 0) next ∙ moved (c - 1) (omega arith) ∙ zeros-start (c - 1) (omega arith)
        | inr past ↦ get_or_past taps c 0 (omega arith)
      ];
  makes = λ k reached below. absurd (omega arith);
  here = λ reached. absurd (omega arith);
}

-- a register that makes the number at n, too, stays
pub IsShortestTo-stays : (n len : ℕ) (taps seq : List ℕ) → IsShortestTo n len taps seq → connection len taps seq n ≡ 0
    → IsShortestTo (n + 1) len taps seq
IsShortestTo-stays n len taps seq is made = record {
  size = is.size;
  bytes = is.bytes;
  within = omega (arith, is.within);
  first = is.first;
  higher = is.higher;
  makes = λ k reached below. below_more (λ j. len ≤ j → connection len taps seq j ≡ 0) n (λ j before above. is.makes j above before) (λ above. made) k below reached;
  least = λ other others within first makes.
      elim (cases_lt n other) [
        | inl longer ↦ omega (arith, is.within)
        | inr not_longer ↦ is.least other others (omega arith) first (λ k reached below. makes k reached (omega arith))
      ];
}

-- where it fails, each register that makes the number is as long, and long enough for both lengths together to pass n
longer : (n len other : ℕ) (taps others seq : List ℕ) → IsShortestTo n len taps seq → connection len taps seq n ≢ 0 → other ≤ n + 1
    → get_or others 0 0 ≡ 1 → Makes other others seq (n + 1) → (len ≤ other) × (n + 1 ≤ len + other)
longer n len other taps others seq is fails within first makes =
    elim (cases_lt n other) [
      | inl past ↦ (omega (arith, is.within), omega arith)
      | inr not_past ↦ (
        is.least other others (omega arith) first (λ k reached below. makes k reached (omega arith)),
        elim (cases_lt n (len + other)) [
          | inl passes ↦ omega arith
          | inr short ↦ absurd (fails (connections-agree len other n taps others seq (omega arith) first is.makes makes))
        ],
      )
    ]

-- A register that fails at n, with the right multiple of one that fails there too. The new length is the larger of
-- both, which no register can fall short of.
pub IsShortestTo-corrected : (n len reach longest found failure factor : ℕ) (taps earlier seq : List ℕ) → IsShortestTo n len taps seq
    → FailsAt n reach failure earlier seq → len + reach ≡ n + 1 → get_or earlier 0 0 ≡ 0 → connection len taps seq n ≡ found → found ≢ 0
    → product factor failure ≡ found → len ≤ longest → reach ≤ longest → ((k : ℕ) → len ≤ k → reach ≤ k → longest ≤ k)
    → IsShortestTo (n + 1) longest (sum_of taps (mul_scalar factor earlier)) seq
IsShortestTo-corrected n len reach longest found failure factor taps earlier seq is fails lengths starts discrepancy nonzero quotient above_len above_reach least =
    let same : length taps ≡ length (mul_scalar factor earlier) = is.size ∙ sym (length-mul_scalar factor earlier ∙ fails.size) in
    let tap : (c : ℕ) → get_or (sum_of taps (mul_scalar factor earlier)) c 0 ≡ plus (get_or taps c 0) (product factor (get_or earlier c 0)) = λ c.
    get_or-sum_of taps (mul_scalar factor earlier) c same ∙ ap (plus (get_or taps c 0)) (get_or-mul_scalar factor earlier c) in
    let parts : (k : ℕ) → connection longest (sum_of taps (mul_scalar factor earlier)) seq k ≡ plus (connection len taps seq k) (product factor (connection reach earlier seq k)) = λ k.
    connection-sum_of longest taps (mul_scalar factor earlier) seq k same
    ∙ ap (plus (connection longest taps seq k)) (connection-mul_scalar longest factor earlier seq k)
    ∙ ap (λ x. plus x (product factor (connection longest earlier seq k))) (connection-longer len longest taps seq k above_len is.higher)
    ∙ ap (λ x. plus (connection len taps seq k) (product factor x)) (connection-longer reach longest earlier seq k above_reach fails.higher) in
    let zeros : (a b : ℕ) → a ≡ 0 → b ≡ 0 → plus a (product factor b) ≡ 0 = λ a b a_zero b_zero. rw (a_zero, b_zero, product-zero factor) (plus-zero 0) in
    record {
      size = length-sum_of taps (mul_scalar factor earlier) same ∙ is.size;
      bytes = All-sum_of taps (mul_scalar factor earlier) is.bytes (All-mul_scalar factor earlier);
      within = least (n + 1) (omega (arith, is.within)) (omega arith);
      first = tap 0 ∙ rw (is.first, starts, product-zero factor) (plus-zero 1);
      higher = λ c above. tap c ∙ zeros (get_or taps c 0) (get_or earlier c 0) (is.higher c (omega arith)) (fails.higher c (omega arith));
      makes = λ k reached below.
          below_more (λ j. longest ≤ j → connection longest (sum_of taps (mul_scalar factor earlier)) seq j ≡ 0) n
          (λ j before above. parts j ∙ zeros (connection len taps seq j) (connection reach earlier seq j) (is.makes j (omega arith) before) (fails.makes j (omega arith) before))
          (λ above. parts n ∙ rw (discrepancy, fails.here (omega arith), quotient) (plus-self found))
          k below reached;
      least = λ other others within first makes.
          let bounds = longer n len other taps others seq is (λ made. nonzero (sym discrepancy ∙ made)) within first makes in
          least other bounds.0 (omega (arith, bounds.1));
    }

-- the register at hand, as one that fails
pub FailsAt-at_hand : (n len found : ℕ) (taps seq : List ℕ) → IsShortestTo n len taps seq → connection len taps seq n ≡ found
    → FailsAt n len found taps seq
FailsAt-at_hand n len found taps seq is discrepancy = record {
  size = is.size;
  higher = is.higher;
  makes = is.makes;
  here = λ reached. discrepancy;
}

-- a multiple fails by the multiple
pub FailsAt-mul_scalar : (n len failure factor : ℕ) (taps seq : List ℕ) → FailsAt n len failure taps seq
    → FailsAt n len (product factor failure) (mul_scalar factor taps) seq
FailsAt-mul_scalar n len failure factor taps seq is = record {
  size = length-mul_scalar factor taps ∙ is.size;
  higher = λ c above. get_or-mul_scalar factor taps c ∙ ap (product factor) (is.higher c above) ∙ product-zero factor;
  makes = λ k reached below. connection-mul_scalar len factor taps seq k ∙ ap (product factor) (is.makes k reached below) ∙ product-zero factor;
  here = λ reached. connection-mul_scalar len factor taps seq n ∙ ap (product factor) (is.here reached);
}

-- with each tap moved up, it fails one place later
pub FailsAt-times_x : (n len failure : ℕ) (taps moved seq : List ℕ) → FailsAt n len failure taps seq → n < 32 → length moved ≡ 33
    → get_or moved 0 0 ≡ 0 → ((k : ℕ) → k + 1 < 33 → get_or moved (k + 1) 0 ≡ get_or taps k 0) → FailsAt (n + 1) (len + 1) failure moved seq
FailsAt-times_x n len failure taps moved seq is few size first others =
    let later : (k : ℕ) → len ≤ k → k < 32 → connection (len + 1) moved seq (k + 1) ≡ connection len taps seq k = λ k reached below.
    let next_len : len + 1 ≡ 1 + len = omega arith in
    let next_place : k + 1 ≡ 1 + k = omega arith in
    ap (λ l. connection l moved seq (k + 1)) next_len ∙ ap (connection (1 + len) moved seq) next_place
    ∙ connection-later len 1 moved taps seq k
    (λ i within. let none : i ≡ 0 = omega arith in ap (λ j. get_or moved j 0) none ∙ first)
    (λ i within. let next : 1 + i ≡ i + 1 = omega arith in ap (λ j. get_or moved j 0) next ∙ others i (omega arith)) in
    let before : (k : ℕ) → len + 1 ≤ k → k ≡ (k - 1) + 1 = λ k reached. omega arith in
    record {
      size = size;
      higher = λ c above.
          elim (cases_lt c 33) [
            | inl inside ↦ ap (λ j. get_or moved j 0) (before c (omega arith)) ∙ others (c - 1) (omega arith) ∙ is.higher (c - 1) (omega arith)
            | inr past ↦ get_or_past moved c 0 (omega arith)
          ];
      makes = λ k reached below.
          ap (connection (len + 1) moved seq) (before k reached) ∙ later (k - 1) (omega arith) (omega arith) ∙ is.makes (k - 1) (omega arith) (omega arith);
      here = λ reached. later n (omega arith) few ∙ is.here (omega arith);
    }

-- what a place leaves, before the earlier register, which fails by 1, moves on
abbrev pub Leaves : ℕ → ℕ → List ℕ → List ℕ → List ℕ → Type 0
Leaves n len taps earlier seq = IsShortestTo (n + 1) len taps seq × FailsAt n (n + 1 - len) 1 earlier seq

module _ (n len : ℕ) (taps earlier seq : List ℕ) (is : IsShortestTo n len taps seq) (fails : FailsAt n (n + 1 - len) 1 earlier seq) where
  -- the register at hand stays
  pub Leaves-stays : connection len taps seq n ≡ 0 → Leaves n len taps earlier seq
  Leaves-stays made = (IsShortestTo-stays n len taps seq is made, fails)

  module _ (found : ℕ) (starts : get_or earlier 0 0 ≡ 0) (discrepancy : found ≡ connection len taps seq n) (nonzero : found ≢ 0) where
    -- the multiple of the earlier one that corrects it
    by_itself : product found 1 ≡ found
    by_itself = product-one found (subst (λ x. x < 256) (sym discrepancy) (connection-byte len taps seq n))

    -- it is corrected, and stays as long
    pub Leaves-corrected : n < 2 * len → Leaves n len (sum_of taps (mul_scalar found earlier)) earlier seq
    Leaves-corrected long = (
      IsShortestTo-corrected n len (n + 1 - len) len found 1 found taps earlier seq is fails (omega (arith, is.within)) starts
          (sym discrepancy) nonzero by_itself (omega arith) (omega arith) (λ k above_len above_reach. above_len),
      fails,
    )

    -- it is corrected, and gets longer; as it was, a multiple of it is the earlier one from now on
    pub Leaves-longer : (factor : ℕ) → product found factor ≡ 1 → 2 * len ≤ n
        → Leaves n (n + 1 - len) (sum_of taps (mul_scalar found earlier)) (mul_scalar factor taps) seq
    Leaves-longer factor inverse short =
        let back : len ≡ n + 1 - (n + 1 - len) = omega (arith, is.within) in (
          IsShortestTo-corrected n len (n + 1 - len) (n + 1 - len) found 1 found taps earlier seq is fails (omega (arith, is.within)) starts
              (sym discrepancy) nonzero by_itself (omega arith) (omega arith) (λ k above_len above_reach. above_reach),
          subst (λ reach. FailsAt n reach 1 (mul_scalar factor taps) seq) back
              (subst (λ by. FailsAt n len by (mul_scalar factor taps) seq) (product-comm factor found ∙ inverse)
              (FailsAt-mul_scalar n len found factor taps seq (FailsAt-at_hand n len found taps seq is (sym discrepancy)))),
        )

-- at the list's end, the taps without the zeros after them generate it
pub Generates-end : (len : ℕ) (taps seq : List ℕ) → IsShortestTo (length seq) len taps seq → length seq ≤ 32 → Generates len (take (len + 1) taps) seq
Generates-end len taps seq is few = record {
  within = is.within;
  size = length-take (len + 1) taps ∙ omega (arith, is.within, is.size);
  bytes = All-take IsByte (len + 1) taps is.bytes;
  first = get_or-take (len + 1) taps 0 0 (omega arith) ∙ is.first;
  vanishes = λ n reached below.
      connection-same len (take (len + 1) taps) taps seq n (λ i within. get_or-take (len + 1) taps i 0 (omega arith)) ∙ is.makes n reached below;
}

-- and no shorter register does
pub IsLeast-end : (len : ℕ) (taps seq : List ℕ) → IsShortestTo (length seq) len taps seq → IsLeast len seq
IsLeast-end len taps seq is other others generates = is.least other others generates.within generates.first generates.vanishes
