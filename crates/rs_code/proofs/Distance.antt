-- Two codewords that differ in at most r places are equal, since their sum is a codeword with as few bytes that aren't
-- 0.
use Rattle.std.proofs.Common.{◌≡◌, ℕ, ◌+◌, ◌≤◌, List, [], ◌∷◌, length, All, replicate, refl, sym, ap, ◌∙◌, arith, inl, inr, ◌==◌, if◌then◌else◌}
use Rattle.std.proofs.lemmas.Bool.{cases_eq}
use Rattle.std.proofs.lemmas.List.Elements.{All-head, All-tail, All-cons, All-nil}
use Rattle.std.proofs.lemmas.Bool.Decides.{nat_tests}
use Rattle.coding.specs.Field.{alpha, plus, power}
use Rattle.coding.specs.Words.{IsByte, IsCodeword}
use Rattle.gf_field.proofs.FieldLaws.{plus-byte, plus-zero, plus-self, plus-zero_same}
use Rattle.rs_code.specs.Inner.Polynomials.{sum_of}
use Rattle.coding.specs.Distance.{weight, distance}
use Rattle.rs_code.proofs.Values.{value-sum_of, length-sum_of}
use Rattle.rs_code.specs.Inner.PowerSums.{points_of}
use Rattle.rs_code.proofs.PowerSums.{length-points_of, All-points_of, AreDistinct-points_of, value-power_sum, none_hidden}

-- a codeword with at most r bytes that aren't 0 is zero
pub IsCodeword-light : (n r : ℕ) (word : List ℕ) → n ≤ 255 → IsCodeword n r word → weight word ≤ r → word ≡ replicate n 0
IsCodeword-light n r word short codeword light =
    let long : length word ≡ length (points_of (length word)) = sym (length-points_of (length word)) in
    let size : length word ≡ n = codeword.size in
    none_hidden r (points_of (length word)) word long codeword.bytes (All-points_of (length word)) (AreDistinct-points_of (length word) (omega arith)) light (λ k below. sym (value-power_sum word k) ∙ codeword.vanishes k below)
    ∙ ap (λ m. replicate m 0) size

-- a sum of words of bytes is one of bytes
pub All-sum_of : (a b : List ℕ) → All IsByte a → All IsByte b → All IsByte (sum_of a b)
unfolding sum_of
All-sum_of [] b all_a all_b = All-nil IsByte
All-sum_of (x ∷ a) [] all_a all_b = All-nil IsByte
All-sum_of (x ∷ a) (y ∷ b) all_a all_b =
    All-cons IsByte (plus x y) (sum_of a b) (plus-byte x y (All-head IsByte x a all_a) (All-head IsByte y b all_b))
    (All-sum_of a b (All-tail IsByte x a all_a) (All-tail IsByte y b all_b))

-- the code is linear
pub IsCodeword-sum_of : (n r : ℕ) (a b : List ℕ) → IsCodeword n r a → IsCodeword n r b → IsCodeword n r (sum_of a b)
IsCodeword-sum_of n r a b code_a code_b =
    let same : length a ≡ length b = code_a.size ∙ sym code_b.size in
    record {
      size = length-sum_of a b same ∙ code_a.size;
      bytes = All-sum_of a b code_a.bytes code_b.bytes;
      vanishes = λ k below. value-sum_of a b (power alpha k) same ∙ rw (code_a.vanishes k below, code_b.vanishes k below) (plus-zero 0);
    }

-- a first byte adds no more to the weight of the sum than to the distance of the two words
first_weighs : (x y w d : ℕ) → w ≤ d → (if plus x y == 0 then 0 else 1) + w ≤ (if x == y then 0 else 1) + d
first_weighs x y w d below =
    elim (cases_eq x y) [
      | inl same ↦ rw (same, plus-self) (grind (arith, nat_tests))
      | inr differ ↦ grind (arith, nat_tests)
    ]

-- a sum has bytes that aren't 0 only where the two words differ
weight-sum_of : (a b : List ℕ) → length a ≡ length b → weight (sum_of a b) ≤ distance a b
unfolding sum_of distance weight
weight-sum_of [] b same = omega arith
weight-sum_of (x ∷ a) [] same = absurd (omega arith)
weight-sum_of (x ∷ a) (y ∷ b) same = first_weighs x y (weight (sum_of a b)) (distance a b) (weight-sum_of a b (omega arith))

-- two words whose sum is 0 are equal
pub sum_of-zeros : (a b : List ℕ) → length a ≡ length b → sum_of a b ≡ replicate (length a) 0 → a ≡ b
unfolding sum_of
sum_of-zeros [] [] same zeros = refl
sum_of-zeros [] (y ∷ b) same zeros = absurd (omega arith)
sum_of-zeros (x ∷ a) [] same zeros = absurd (omega arith)
sum_of-zeros (x ∷ a) (y ∷ b) same zeros =
    let first = plus-zero_same x y (let e : plus x y ≡ 0 = cc in e) in
    let rest = sum_of-zeros a b (omega arith) cc in
    cc

-- two codewords that differ in at most r places are equal
pub IsCodeword-close : (n r : ℕ) (a b : List ℕ) → n ≤ 255 → IsCodeword n r a → IsCodeword n r b → distance a b ≤ r → a ≡ b
IsCodeword-close n r a b short code_a code_b close =
    let same : length a ≡ length b = code_a.size ∙ sym code_b.size in
    let size : length a ≡ n = code_a.size in
    sum_of-zeros a b same
    (IsCodeword-light n r (sum_of a b) short (IsCodeword-sum_of n r a b code_a code_b) (omega (arith, weight-sum_of a b same))
    ∙ ap (λ m. replicate m 0) (sym size))
