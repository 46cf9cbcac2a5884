-- The locator, a shortest register that generates the sums, finds every error: where a codeword is near, it agrees with
-- the received word at each place that is neither marked nor a zero of the locator, and these are few enough to be
-- filled.
use Rattle.std.proofs.Common.{◌≡◌, ◌≢◌, ℕ, zero, suc, ◌+◌, ◌*◌, ◌<◌, ◌≤◌, Bool, true, false, ◌||◌, List, [], ◌∷◌, length, get_or, All, replicate, refl, sym, ap, subst, ◌∙◌, arith, inl, inr, ◌==◌, if◌then◌else◌}
use Rattle.std.proofs.lemmas.List.{get_or-replicate}
use Rattle.std.proofs.lemmas.Bool.{false≢true}
use Rattle.std.proofs.lemmas.Bool.Decides.{nat_tests}
use Rattle.std.proofs.lemmas.List.Elements.{All-get_or}
use Rattle.coding.specs.Field.{alpha, plus, product, power}
use Rattle.coding.specs.Words.{IsByte, IsCodeword, IsNear, cost, value}
use Rattle.gf_field.proofs.FieldLaws.{plus-zero, plus-self, plus-zero_same, product-byte, product-zero, zero-product, product-zero_factor}
use Rattle.coding.specs.Distance.{weight}
use Rattle.rs_code.specs.Inner.Polynomials.{sum_of}
use Rattle.rs_code.specs.Syndromes.{syndromes_of}
use Rattle.rs_code.proofs.Distance.{All-sum_of}
use Rattle.rs_code.proofs.Syndromes.{length-syndromes_of, get_or-syndromes_of}
use Rattle.rs_code.proofs.Values.{value-byte, value-sum_of, length-sum_of, get_or-sum_of}
use Rattle.rs_code.specs.Inner.PowerSums.{points_of, power_sum}
use Rattle.rs_code.proofs.PowerSums.{AreDistinct-points_of, All-points_of, length-points_of, value-power_sum, none_hidden}
use Rattle.rs_decode.specs.Errors.{error_count}
use Rattle.coding.specs.Filling.{IsFilling, marked}
use Rattle.rs_decode.specs.Inner.Locator.{with_zeros, at_points, distances}
use Rattle.rs_decode.specs.Register.{Generates, IsLeast}
use Rattle.rs_decode.specs.Inner.Sums.{AreSums}
use Rattle.rs_decode.specs.Inner.Places.{picked}
use Rattle.rs_decode.proofs.Combinations.{length-at_points, All-at_points, get_or-at_points, weight-at_points}
use Rattle.rs_decode.proofs.Locators.{shortest-few, power_sum-generated}
use Rattle.rs_decode.proofs.MarksTakenOut.{distances-byte, distances-marked, distances-unmarked, weight-error_count}
use Rattle.rs_decode.proofs.Roots.{zeros_among, few_zeros}

-- an unmarked place costs two where it has an error, and nothing else
one_place : (byte got c e m : ℕ) → c ≡ 2 * e + m → (if byte == got then 0 else 2) + c ≡ 2 * ((if byte == got then 0 else 1) + e) + (0 + m)
one_place byte got c e m parts = grind (arith, nat_tests)

-- the cost is twice the number of errors and the number of marked places
pub cost-parts : (received word : List ℕ) (marks : List Bool)
    → length received ≡ length word
    → length marks ≡ length word
    → cost word received marks ≡ 2 * error_count received word marks + marked marks
unfolding cost error_count marked
cost-parts [] [] [] size_r size_m = refl
cost-parts [] (byte ∷ word) marks size_r size_m = absurd (omega arith)
cost-parts (got ∷ received) [] marks size_r size_m = absurd (omega arith)
cost-parts [] [] (mark ∷ marks) size_r size_m = absurd (omega arith)
cost-parts (got ∷ received) (byte ∷ word) [] size_r size_m = absurd (omega arith)
cost-parts (got ∷ received) (byte ∷ word) (true ∷ marks) size_r size_m = omega (arith, cost-parts received word marks (omega arith) (omega arith))
cost-parts (got ∷ received) (byte ∷ word) (false ∷ marks) size_r size_m =
    one_place byte got (cost word received marks) (error_count received word marks) (marked marks) (cost-parts received word marks (omega arith) (omega arith))

-- the marks with the zeros, place by place
pub get_or-with_zeros : (locator : List ℕ) (marks : List Bool) (points : List ℕ) (k : ℕ)
    → length marks ≡ length points
    → k < length marks
    → get_or (with_zeros locator marks points) k false ≡ (get_or marks k false || (value locator (get_or points k 0) == 0))
unfolding with_zeros
get_or-with_zeros locator [] points k same inside = absurd (omega arith)
get_or-with_zeros locator (mark ∷ marks) [] k same inside = absurd (omega arith)
get_or-with_zeros locator (mark ∷ marks) (point ∷ points) zero same inside = refl
get_or-with_zeros locator (mark ∷ marks) (point ∷ points) (suc k) same inside = get_or-with_zeros locator marks points k (omega arith) (omega arith)

-- with the zeros marked too there are as many marks as before
pub length-with_zeros : (locator : List ℕ) (marks : List Bool) (points : List ℕ) → length marks ≡ length points → length (with_zeros locator marks points) ≡ length marks
unfolding with_zeros
length-with_zeros locator [] points same = refl
length-with_zeros locator (mark ∷ marks) [] same = absurd (omega arith)
length-with_zeros locator (mark ∷ marks) (point ∷ points) same = ap suc (length-with_zeros locator marks points (omega arith))

-- a place that was marked is counted once more, whether or not it is a zero
mark_counts : (p w m z : ℕ) → w ≤ m + z → 1 + w ≤ 1 + m + ((if p == 0 then 1 else 0) + z)
mark_counts p w m z below = grind (arith, nat_tests)

-- a place that wasn't marked is counted once more where it is a zero
zero_counts : (p w m z : ℕ) → w ≤ m + z → (if p == 0 then 1 else 0) + w ≤ 0 + m + ((if p == 0 then 1 else 0) + z)
zero_counts p w m z below = grind (arith, nat_tests)

-- the marks with the zeros are no more than the marks and the zeros together
marked-with_zeros : (locator : List ℕ) (marks : List Bool) (points : List ℕ) → marked (with_zeros locator marks points) ≤ marked marks + zeros_among (value locator) points
unfolding with_zeros marked zeros_among
marked-with_zeros locator [] points = omega arith
marked-with_zeros locator (mark ∷ marks) [] = omega arith
marked-with_zeros locator (true ∷ marks) (point ∷ points) = mark_counts (value locator point) (marked (with_zeros locator marks points)) (marked marks) (zeros_among (value locator) points) (marked-with_zeros locator marks points)
marked-with_zeros locator (false ∷ marks) (point ∷ points) = zero_counts (value locator point) (marked (with_zeros locator marks points)) (marked marks) (zeros_among (value locator) points) (marked-with_zeros locator marks points)

-- the syndromes are the power sums of what differs from a codeword
pub AreSums-syndromes_of : (n r : ℕ) (received word : List ℕ) → length received ≡ n → IsCodeword n r word → AreSums (points_of n) (sum_of received word) (syndromes_of r received)
AreSums-syndromes_of n r received word size codeword =
    let same : length received ≡ length word = size ∙ sym codeword.size in
    let size_sum : length (sum_of received word) ≡ n = length-sum_of received word same ∙ size in
    record {
      sums_are = λ k below.
          let inside : k < r = omega (arith, length-syndromes_of r received) in
          ap (λ m. power_sum (sum_of received word) (points_of m) k) (sym size_sum)
          ∙ sym (value-power_sum (sum_of received word) k)
          ∙ value-sum_of received word (power alpha k) same
          ∙ ap (plus (value received (power alpha k))) (codeword.vanishes k inside)
          ∙ plus-zero (value received (power alpha k))
          ∙ sym (get_or-syndromes_of r received k inside);
    }

-- the place's error is 0 where the error times the distances and the locator's value is, and neither of these
no_error : (e d l : ℕ) → IsByte e → IsByte d → IsByte l → d ≢ 0 → l ≢ 0 → product (product e d) l ≡ 0 → e ≡ 0
no_error e d l byte_e byte_d byte_l apart no_root vanishes =
    elim (product-zero_factor (product e d) l (product-byte e d) byte_l vanishes) [
      | inl first ↦ elim (product-zero_factor e d byte_e byte_d first) [ inl is ↦ is | inr no_distance ↦ absurd (apart no_distance) ]
      | inr root ↦ absurd (no_root root)
    ]

-- the locator takes every byte that is left to 0
all_located : (n len : ℕ) (masked sums locator : List ℕ) → n ≤ 255 → length masked ≡ n → len ≤ weight masked → 2 * weight masked ≤ length sums
    → AreSums (points_of n) masked sums → Generates len locator sums → at_points (value locator) masked (points_of n) ≡ replicate n 0
all_located n len masked sums locator short size least few are generates =
    let points = points_of n in
    let long : length points ≡ n = length-points_of n in
    let hidden = at_points (value locator) masked points in
    let hidden_size : length hidden ≡ n = length-at_points (value locator) masked points (size ∙ sym long) ∙ size in
    none_hidden (weight masked) points hidden (hidden_size ∙ sym long) (All-at_points (value locator) masked points) (All-points_of n) (AreDistinct-points_of n short) (weight-at_points (value locator) masked points)
    (λ k below. power_sum-generated len locator sums masked points k generates (omega arith) are)
    ∙ ap (λ m. replicate m 0) hidden_size

-- a place that isn't marked afterwards wasn't marked before
or_left : (mark : Bool) (l : ℕ) → (mark || (l == 0)) ≡ false → mark ≡ false
or_left true l clear = absurd (false≢true (sym clear))
or_left false l clear = refl

-- and is no zero of the locator
or_right : (mark : Bool) (l : ℕ) → (mark || (l == 0)) ≡ false → l ≢ 0
or_right true l clear = absurd (false≢true (sym clear))
or_right false zero clear = absurd (false≢true (sym clear))
or_right false (suc l) clear = λ is. absurd (omega arith)

-- the errors at the points, the marked places taken out
abbrev masked : ℕ → List ℕ → List ℕ → List Bool → List ℕ
masked n received word marks = at_points (distances (picked marks (points_of n))) (sum_of received word) (points_of n)

module _ (n r : ℕ) (received word : List ℕ) (marks : List Bool) (near : IsNear n r received marks word) where
  -- both words have one length
  near-same : length received ≡ length word
  near-same = near.received_size ∙ sym near.codeword.size

  -- there is an error for each point
  errors-size : length (sum_of received word) ≡ length (points_of n)
  errors-size = length-sum_of received word near-same ∙ near.received_size ∙ sym (length-points_of n)

  -- and so it is with the marked places taken out
  masked-size : length (masked n received word marks) ≡ n
  masked-size = length-at_points (distances (picked marks (points_of n))) (sum_of received word) (points_of n) errors-size ∙ errors-size ∙ length-points_of n

  -- the error at one place, times its distances from the marked ones
  get_or-masked : (k : ℕ) → k < n
      → get_or (masked n received word marks) k 0 ≡ product (get_or (sum_of received word) k 0) (distances (picked marks (points_of n)) (get_or (points_of n) k 0))
  get_or-masked k inside =
      get_or-at_points (distances (picked marks (points_of n))) (sum_of received word) (points_of n) k errors-size (omega (arith, errors-size, length-points_of n))

  -- these are as few as the errors
  weight-masked : weight (masked n received word marks) ≤ error_count received word marks
  weight-masked =
      let size = masked-size in
      let long = length-points_of n in
      weight-error_count (masked n received word marks) received word marks (near.received_size ∙ sym size) (near.codeword.size ∙ sym size) (near.marks_size ∙ sym size)
      (λ k below mark_is.
      get_or-masked k (omega arith)
      ∙ rw (distances-marked marks (points_of n) k (omega arith) mark_is) (product-zero (get_or (sum_of received word) k 0)))
      (λ k below clear agree.
      get_or-masked k (omega arith)
      ∙ rw (get_or-sum_of received word k near-same, agree, plus-self) (zero-product (distances (picked marks (points_of n)) (get_or (points_of n) k 0))))

  -- no error is left at a place that is neither marked nor a zero
  agrees_elsewhere : (locator : List ℕ)
      → n ≤ 255
      → All IsByte received
      → at_points (value locator) (masked n received word marks) (points_of n) ≡ replicate n 0
      → (k : ℕ) → k < n
      → get_or (with_zeros locator marks (points_of n)) k false ≡ false
      → get_or word k 0 ≡ get_or received k 0
  agrees_elsewhere locator short received_bytes hidden_is k inside clear =
      let points = points_of n in
      let others = picked marks points in
      let errors = sum_of received word in
      let size = errors-size in
      let long : length points ≡ n = length-points_of n in
      let parts = sym (get_or-with_zeros locator marks points k (near.marks_size ∙ sym long) (omega (arith, near.marks_size))) ∙ clear in
      let vanishes : product (product (get_or errors k 0) (distances others (get_or points k 0))) (value locator (get_or points k 0)) ≡ 0 =
      sym (get_or-at_points (value locator) (masked n received word marks) points k (masked-size ∙ sym long) (omega (arith, masked-size))
      ∙ ap (λ b. product b (value locator (get_or points k 0))) (get_or-masked k inside))
      ∙ ap (λ xs. get_or xs k 0) hidden_is ∙ get_or-replicate n k 0 0 inside in
      let none = no_error (get_or errors k 0) (distances others (get_or points k 0)) (value locator (get_or points k 0))
      (All-get_or IsByte errors k 0 (omega arith) (All-sum_of received word received_bytes near.codeword.bytes))
      (distances-byte others (get_or points k 0)) (value-byte locator (get_or points k 0))
      (distances-unmarked marks points k (AreDistinct-points_of n short) (All-points_of n) (omega arith) (or_left (get_or marks k false) (value locator (get_or points k 0)) parts))
      (or_right (get_or marks k false) (value locator (get_or points k 0)) parts) vanishes in
      sym (plus-zero_same (get_or received k 0) (get_or word k 0) (sym (get_or-sum_of received word k near-same) ∙ none))

-- a near codeword fills the places that are marked or zeros of the locator
located : (n r len : ℕ) (received word : List ℕ) (marks : List Bool) (sums locator : List ℕ) → n ≤ 255 → IsNear n r received marks word → All IsByte received
    → length sums + marked marks ≡ r → AreSums (points_of n) (masked n received word marks) sums
    → Generates len locator sums → IsLeast len sums → IsFilling n r received (with_zeros locator marks (points_of n)) word
located n r len received word marks sums locator short near received_bytes left are generates least =
    let points = points_of n in
    let long : length points ≡ n = length-points_of n in
    let parts = cost-parts received word marks (near-same n r received word marks near) (near.marks_size ∙ sym near.codeword.size) in
    let within = near.within in
    let errors = masked n received word marks in
    let few : weight errors ≤ error_count received word marks = weight-masked n r received word marks near in
    let size : length errors ≡ n = masked-size n r received word marks near in
    let half : 2 * weight errors ≤ length sums = omega arith in
    let no_longer : len ≤ weight errors = shortest-few len sums errors points (size ∙ sym long) (omega arith) are least in
    let hidden_is = all_located n len errors sums locator short size no_longer half are generates in
    let width : length locator ≡ len + 1 = generates.size in
    let roots : zeros_among (value locator) points + 1 ≤ length locator =
    few_zeros points locator (AreDistinct-points_of n short) (All-points_of n) generates.bytes (omega arith) generates.first in
    record {
      codeword = near.codeword;
      agrees = λ k below clear.
          agrees_elsewhere n r received word marks near locator short received_bytes hidden_is k
          (omega (arith, length-with_zeros locator marks points (near.marks_size ∙ sym long), near.marks_size)) clear;
      within = omega (arith, marked-with_zeros locator marks points);
    }

-- as the decoder finds it: with the marked points taken out of the syndromes, and the zeros of the locator marked
pub located-by_shortest : (n r len : ℕ) (received word : List ℕ) (marks doubtful : List Bool) (points syndromes sums locator : List ℕ)
    → n ≤ 255 → length received ≡ n → length marks ≡ n → All IsByte received
    → points ≡ picked marks (points_of (length marks)) → length points ≡ marked marks → syndromes ≡ syndromes_of r received
    → ((places bytes : List ℕ) → AreSums places bytes syndromes → AreSums places (at_points (distances points) bytes places) sums) → length sums + length points ≡ length syndromes
    → Generates len locator sums → IsLeast len sums → doubtful ≡ with_zeros locator marks (points_of (length marks))
    → IsNear n r received marks word → IsFilling n r received doubtful word
located-by_shortest n r len received word marks doubtful points syndromes sums locator short size_r size_m bytes points_are few syndromes_are take_out left generates least doubtful_is near =
    let at : points_of (length marks) ≡ points_of n = ap points_of size_m in
    let syndromes_sums = subst (λ xs. AreSums (points_of n) (sum_of received word) xs) (sym syndromes_are) (AreSums-syndromes_of n r received word size_r near.codeword) in
    let masked = take_out (points_of n) (sum_of received word) syndromes_sums in
    let masked_sums = subst (λ xs. AreSums (points_of n) (at_points (distances xs) (sum_of received word) (points_of n)) sums) (points_are ∙ ap (picked marks) at) masked in
    let total : length sums + marked marks ≡ r = omega (arith, ap length syndromes_are, length-syndromes_of r received) in
    let filling = located n r len received word marks sums locator short near bytes total masked_sums generates least in
    subst (λ xs. IsFilling n r received xs word) (sym (doubtful_is ∙ ap (with_zeros locator marks) at)) filling
