-- A shortest register that is at most half as long as its list is the only one of its length. The difference of two,
-- without the zeros that it begins with and with its first tap made 1, would else be a shorter one.
use Rattle.std.proofs.Common.{◌≡◌, ℕ, zero, suc, ◌+◌, ◌-◌, ◌*◌, ◌<◌, ◌≤◌, List, length, get_or, drop, sym, ap, ◌∙◌, arith, inl, inr, length-drop}
use Rattle.std.proofs.lemmas.Bool.{cases_eq, cases_lt}
use Rattle.std.proofs.lemmas.Grind.{same_number_lists}
use Rattle.std.proofs.lemmas.List.{get_or-drop}
use Rattle.std.proofs.lemmas.List.Elements.{All-get_or}
use Rattle.coding.specs.Field.{plus, product}
use Rattle.coding.specs.Words.{IsByte}
use Rattle.gf_field.proofs.FieldLaws.{has_inverse, plus-self, plus-zero, plus-zero_same, product-comm, product-zero}
use Rattle.rs_code.specs.Inner.Polynomials.{sum_of, mul_scalar}
use Rattle.rs_code.proofs.Distance.{All-sum_of}
use Rattle.rs_code.proofs.Remainders.{All-mul_scalar}
use Rattle.rs_code.proofs.Values.{length-sum_of, length-mul_scalar, get_or-sum_of, get_or-mul_scalar}
use Rattle.rs_decode.specs.Laws.{ShortestRegisterIsOnlyOne}
use Rattle.rs_decode.specs.Register.{Generates, IsLeast, connection}
use Rattle.rs_decode.proofs.Connections.{Makes, connection-later, connection-sum_of, connection-mul_scalar, connections-agree}

-- the difference's connections are 0
difference-makes : (len : ℕ) (a b seq : List ℕ) → Generates len a seq → Generates len b seq → Makes len (sum_of a b) seq (length seq)
difference-makes len a b seq gen_a gen_b k reached below =
    connection-sum_of len a b seq k (gen_a.size ∙ sym gen_b.size) ∙ rw (gen_a.vanishes k reached below, gen_b.vanishes k reached below) (plus-zero 0)

-- Without the zeros it begins with, it makes the list: where the difference reaches by what was just said, and after
-- that since a register makes it with which it is short enough.
rest-makes : (len first factor : ℕ) (difference taps seq : List ℕ) → first ≤ len → 2 * len ≤ length seq → Generates len taps seq
    → Makes len difference seq (length seq) → ((i : ℕ) → i < first → get_or difference i 0 ≡ 0) → (n : ℕ) → n ≤ length seq
    → Makes (len - first) (mul_scalar factor (drop first difference)) seq n
rest-makes len first factor difference taps seq within short generates makes zeros zero inside k reached below = absurd (omega arith)
rest-makes len first factor difference taps seq within short generates makes zeros (suc n) inside k reached below =
    let rest = mul_scalar factor (drop first difference) in
    elim (cases_lt k n) [
      | inl earlier ↦ rest-makes len first factor difference taps seq within short generates makes zeros n (omega arith) k reached earlier
      | inr last ↦
          elim (cases_lt (first + k) (length seq)) [
            | inl early ↦
                let whole : first + (len - first) ≡ len = omega arith in
                connection-mul_scalar (len - first) factor (drop first difference) seq k
                ∙ ap (product factor) (sym (connection-later (len - first) first difference (drop first difference) seq k zeros (λ i below. sym (get_or-drop first difference i 0)))
                ∙ ap (λ l. connection l difference seq (first + k)) whole ∙ makes (first + k) (omega arith) early)
                ∙ product-zero factor
            | inr late ↦
                connections-agree (len - first) len k rest taps seq (omega arith) generates.first
                (λ j above before. rest-makes len first factor difference taps seq within short generates makes zeros n (omega arith) j above (omega arith))
                (λ j above before. generates.vanishes j above (omega arith))
          ]
    ]

-- so the next place of the difference is 0 too
next-zero : (len first : ℕ) (a b seq : List ℕ) → first ≤ len → 2 * len ≤ length seq → IsLeast len seq → Generates len a seq → Generates len b seq
    → ((i : ℕ) → i < first → get_or (sum_of a b) i 0 ≡ 0) → get_or (sum_of a b) first 0 ≡ 0
next-zero len first a b seq within short least gen_a gen_b zeros =
    let difference = sum_of a b in
    let same : length a ≡ length b = gen_a.size ∙ sym gen_b.size in
    let tap : (i : ℕ) → get_or difference i 0 ≡ plus (get_or a i 0) (get_or b i 0) = λ i. get_or-sum_of a b i same in
    let byte : get_or difference first 0 < 256 =
    All-get_or IsByte difference first 0 (omega (arith, length-sum_of a b same, gen_a.size)) (All-sum_of a b gen_a.bytes gen_b.bytes) in
    elim (cases_eq (get_or difference first 0) 0) [
      | inl is_zero ↦ is_zero
      | inr nonzero ↦
          let inverse = has_inverse (get_or difference first 0) byte nonzero in
          let rest = mul_scalar inverse.0 (drop first difference) in
          let generates : Generates (len - first) rest seq = record {
            within = omega (arith, gen_a.within);
            size = length-mul_scalar inverse.0 (drop first difference) ∙ length-drop first difference ∙ omega (arith, length-sum_of a b same, gen_a.size);
            bytes = All-mul_scalar inverse.0 (drop first difference);
            first =
                get_or-mul_scalar inverse.0 (drop first difference) 0
                ∙ ap (product inverse.0) (get_or-drop first difference 0 0 ∙ ap (λ i. get_or difference i 0) (omega arith))
                ∙ product-comm inverse.0 (get_or difference first 0) ∙ inverse.2;
            vanishes =
                rest-makes len first inverse.0 difference a seq within short gen_a (difference-makes len a b seq gen_a gen_b) zeros (length seq) (omega arith);
          } in
          let none : first ≡ 0 = omega (arith, least (len - first) rest generates) in
          ap (λ i. get_or difference i 0) none ∙ tap 0 ∙ rw (gen_a.first, gen_b.first) (plus-self 1)
    ]

-- and so are all of them
all-zero : (len : ℕ) (a b seq : List ℕ) → 2 * len ≤ length seq → IsLeast len seq → Generates len a seq → Generates len b seq → (n : ℕ) → n ≤ len + 1
    → (i : ℕ) → i < n → get_or (sum_of a b) i 0 ≡ 0
all-zero len a b seq short least gen_a gen_b zero within i below = absurd (omega arith)
all-zero len a b seq short least gen_a gen_b (suc n) within i below =
    let before : (k : ℕ) → k < n → get_or (sum_of a b) k 0 ≡ 0 = all-zero len a b seq short least gen_a gen_b n (omega arith) in
    elim (cases_lt i n) [
      | inl earlier ↦ before i earlier
      | inr last ↦
          let here : i ≡ n = omega arith in
          ap (λ k. get_or (sum_of a b) k 0) here ∙ next-zero len n a b seq (omega arith) short least gen_a gen_b before
    ]

-- both registers have the same taps
pub only_register : ShortestRegisterIsOnlyOne
only_register len a b seq short least gen_a gen_b =
    let same : length a ≡ length b = gen_a.size ∙ sym gen_b.size in
    same_number_lists a b same (λ k below.
    plus-zero_same (get_or a k 0) (get_or b k 0)
    (sym (get_or-sum_of a b k same) ∙ all-zero len a b seq short least gen_a gen_b (len + 1) (omega arith) k (omega (arith, gen_a.size))))
