-- Words that were filled at their marked places.
use Rattle.std.proofs.Common.{◌≡◌, ◌≢◌, ℕ, zero, suc, ◌<◌, ◌≤◌, Bool, true, false, List, [], ◌∷◌, length, get_or, All, refl, sym, ap, subst, ◌∙◌, arith}
use Rattle.coding.specs.Field.{alpha, plus, product, power}
use Rattle.coding.specs.Words.{IsByte, IsCodeword, value}
use Rattle.gf_field.proofs.FieldLaws.{plus-again, plus-assoc, plus-pairs, plus-self, plus-zero, plus-zero_same, plus-product, power-swap}
use Rattle.rs_code.specs.Syndromes.{syndromes_of}
use Rattle.rs_code.specs.Inner.Polynomials.{sum_of}
use Rattle.rs_code.proofs.Distance.{All-sum_of}
use Rattle.rs_code.specs.Inner.PowerSums.{power_sum, points_of, AreDistinct}
use Rattle.rs_code.proofs.PowerSums.{length-points_of, AreDistinct-points_of}
use Rattle.rs_code.proofs.Syndromes.{get_or-syndromes_of, length-syndromes_of}
use Rattle.rs_code.proofs.Values.{length-sum_of, value-cons}
use Rattle.coding.specs.Filling.{IsFilling, HasNoFilling, AgreeUnmarked, marked}
use Rattle.rs_decode.specs.Patches.{patched}
use Rattle.rs_decode.specs.Inner.Places.{picked}
use Rattle.rs_decode.specs.Inner.Sums.{AreOnly, AreSums}
use Rattle.rs_decode.proofs.Marks.{All-picked, length-picked}

-- ---- the points of marked places differ

-- of distinct numbers those at marked places are distinct
AreDistinct-picked : (marks : List Bool) (xs : List ℕ) → AreDistinct xs → AreDistinct (picked marks xs)
unfolding AreDistinct picked
AreDistinct-picked [] xs distinct = tt
AreDistinct-picked (mark ∷ marks) [] distinct = tt
AreDistinct-picked (true ∷ marks) (x ∷ xs) distinct = (All-picked (λ y. x ≢ y) marks xs distinct.0, AreDistinct-picked marks xs distinct.1)
AreDistinct-picked (false ∷ marks) (x ∷ xs) distinct = AreDistinct-picked marks xs distinct.1

-- the points of a word's marked places are distinct
pub marked_points-distinct : (marks : List Bool) (points : List ℕ) → length marks ≤ 255 → points ≡ picked marks (points_of (length marks)) → AreDistinct points
marked_points-distinct marks points short is = subst AreDistinct (sym is) (AreDistinct-picked marks (points_of (length marks)) (AreDistinct-points_of (length marks) short))

-- there are as many points as places are marked
pub points-few : (marks : List Bool) (points : List ℕ) → points ≡ picked marks (points_of (length marks)) → length points ≡ marked marks
points-few marks points are = ap length are ∙ length-picked marks (points_of (length marks)) (length-points_of (length marks))

-- ---- the filled word

-- a filled word is as long as before
pub length-patched : (word : List ℕ) (marks : List Bool) (bytes : List ℕ) → length (patched word marks bytes) ≡ length word
unfolding patched
length-patched [] marks bytes = refl
length-patched (byte ∷ word) [] bytes = refl
length-patched (byte ∷ word) (false ∷ marks) bytes = ap suc (length-patched word marks bytes)
length-patched (byte ∷ word) (true ∷ marks) [] = ap suc (length-patched word marks [])
length-patched (byte ∷ word) (true ∷ marks) (first ∷ rest) = ap suc (length-patched word marks rest)

-- a filled word agrees with the received one at all places that aren't marked
pub AgreeUnmarked-patched : (word : List ℕ) (marks : List Bool) (bytes : List ℕ) → length word ≡ length marks → AgreeUnmarked marks word (patched word marks bytes)
unfolding patched
AgreeUnmarked-patched [] marks bytes size k below clear = refl
AgreeUnmarked-patched (byte ∷ word) [] bytes size k below clear = refl
AgreeUnmarked-patched (byte ∷ word) (false ∷ marks) bytes size zero below clear = refl
AgreeUnmarked-patched (byte ∷ word) (false ∷ marks) bytes size (suc k) below clear = AgreeUnmarked-patched word marks bytes (omega arith) k (omega arith) clear
AgreeUnmarked-patched (byte ∷ word) (true ∷ marks) bytes size zero below clear = absurd (cc)
AgreeUnmarked-patched (byte ∷ word) (true ∷ marks) [] size (suc k) below clear = AgreeUnmarked-patched word marks [] (omega arith) k (omega arith) clear
AgreeUnmarked-patched (byte ∷ word) (true ∷ marks) (first ∷ rest) size (suc k) below clear = AgreeUnmarked-patched word marks rest (omega arith) k (omega arith) clear

-- what the added bytes count in a value is their power sum
pub value-patched : (word : List ℕ) (marks : List Bool) (bytes : List ℕ) (k : ℕ)
    → length word ≡ length marks
    → length bytes ≡ marked marks
    → value (patched word marks bytes) (power alpha k) ≡ plus (value word (power alpha k)) (power_sum bytes (picked marks (points_of (length word))) k)
unfolding patched picked points_of power_sum marked
value-patched [] marks [] k size few = sym (plus-zero (value [] (power alpha k)))
value-patched [] [] (first ∷ rest) k size few = absurd (omega arith)
value-patched [] (mark ∷ marks) (first ∷ rest) k size few = absurd (omega arith)
value-patched (byte ∷ word) [] bytes k size few = absurd (omega arith)
value-patched (byte ∷ word) (false ∷ marks) bytes k size few =
    let counted = product byte (power (power alpha k) (length word)) in
    let rest = power_sum bytes (picked marks (points_of (length word))) k in
    value-cons byte (patched word marks bytes) (power alpha k)
    ∙ ap (λ n. plus (product byte (power (power alpha k) n)) (value (patched word marks bytes) (power alpha k))) (length-patched word marks bytes)
    ∙ ap (plus counted) (value-patched word marks bytes k (omega arith) (omega arith))
    ∙ sym (plus-assoc counted (value word (power alpha k)) rest)
    ∙ ap (λ v. plus v rest) (sym (value-cons byte word (power alpha k)))
value-patched (byte ∷ word) (true ∷ marks) [] k size few = absurd (omega arith)
value-patched (byte ∷ word) (true ∷ marks) (first ∷ rest) k size few =
    let place = power (power alpha k) (length word) in
    let point = power (power alpha (length word)) k in
    let others = power_sum rest (picked marks (points_of (length word))) k in
    value-cons (plus byte first) (patched word marks rest) (power alpha k)
    ∙ ap (λ n. plus (product (plus byte first) (power (power alpha k) n)) (value (patched word marks rest) (power alpha k))) (length-patched word marks rest)
    ∙ ap (plus (product (plus byte first) place)) (value-patched word marks rest k (omega arith) (omega arith))
    ∙ ap (λ v. plus v (plus (value word (power alpha k)) others)) (plus-product byte first place)
    ∙ plus-pairs (product byte place) (product first place) (value word (power alpha k)) others
    ∙ ap (λ v. plus v (plus (product first place) others)) (sym (value-cons byte word (power alpha k)))
    ∙ ap (λ p. plus (value (byte ∷ word) (power alpha k)) (plus (product first p) others)) (power-swap alpha k (length word))

-- the same, with the points of the marked places at hand
value-at_points : (word : List ℕ) (marks : List Bool) (bytes points : List ℕ) (k : ℕ) → length word ≡ length marks → length bytes ≡ length points
    → points ≡ picked marks (points_of (length marks))
    → value (patched word marks bytes) (power alpha k) ≡ plus (value word (power alpha k)) (power_sum bytes points k)
value-at_points word marks bytes points k alike fits points_are =
    value-patched word marks bytes k alike (fits ∙ points-few marks points points_are)
    ∙ ap (λ n. plus (value word (power alpha k)) (power_sum bytes (picked marks (points_of n)) k)) alike
    ∙ ap (λ xs. plus (value word (power alpha k)) (power_sum bytes xs k)) (sym points_are)

-- so bytes that have a value as their power sum take it to 0
pub value-completed : (word : List ℕ) (marks : List Bool) (bytes points : List ℕ) (k : ℕ) → length word ≡ length marks → length bytes ≡ length points
    → points ≡ picked marks (points_of (length marks)) → value word (power alpha k) ≡ power_sum bytes points k
    → value (patched word marks bytes) (power alpha k) ≡ 0
value-completed word marks bytes points k alike fits points_are same =
    value-at_points word marks bytes points k alike fits points_are ∙ ap (plus (value word (power alpha k))) (sym same) ∙ plus-self (value word (power alpha k))

-- so a filled word's values are its syndromes before and these power sums
pub value-filled : (r : ℕ) (word filled syndromes bytes points : List ℕ) (marks : List Bool) → length word ≡ length marks → length bytes ≡ length points
    → points ≡ picked marks (points_of (length marks)) → syndromes ≡ syndromes_of r word → filled ≡ patched word marks bytes
    → (k : ℕ) → k < r → value filled (power alpha k) ≡ plus (get_or syndromes k 0) (power_sum bytes points k)
value-filled r word filled syndromes bytes points marks alike fits points_are syndromes_are filled_is k below =
    ap (λ w. value w (power alpha k)) filled_is ∙ value-at_points word marks bytes points k alike fits points_are
    ∙ ap (λ v. plus v (power_sum bytes points k)) (sym (get_or-syndromes_of r word k below) ∙ ap (λ xs. get_or xs k 0) (sym syndromes_are))

-- ---- a codeword that agrees

-- the bytes that a word lacks of another, at the marked places
abbrev lacking : List Bool → List ℕ → List ℕ → List ℕ
lacking marks word filling = picked marks (sum_of word filling)

-- with these bytes added it is the other, if they agree elsewhere
patched-lacking : (word filling : List ℕ) (marks : List Bool) → length word ≡ length marks → length filling ≡ length marks → AgreeUnmarked marks word filling
    → patched word marks (lacking marks word filling) ≡ filling
unfolding patched picked sum_of
patched-lacking [] [] [] size as_long agree = refl
patched-lacking [] [] (mark ∷ marks) size as_long agree = absurd (omega arith)
patched-lacking [] (other ∷ filling) marks size as_long agree = absurd (omega arith)
patched-lacking (byte ∷ word) [] marks size as_long agree = absurd (omega arith)
patched-lacking (byte ∷ word) (other ∷ filling) [] size as_long agree = absurd (omega arith)
patched-lacking (byte ∷ word) (other ∷ filling) (true ∷ marks) size as_long agree =
    let rest = patched-lacking word filling marks (omega arith) (omega arith) (λ k below clear. agree (suc k) (omega arith) clear) in
    rw (plus-again byte other, rest) refl
patched-lacking (byte ∷ word) (other ∷ filling) (false ∷ marks) size as_long agree =
    let rest = patched-lacking word filling marks (omega arith) (omega arith) (λ k below clear. agree (suc k) (omega arith) clear) in
    let here : other ≡ byte = agree 0 (omega arith) refl in
    cc

-- what a word lacks of a codeword has the word's syndromes as its power sums
AreSums-lacking : (n r : ℕ) (word filling syndromes points : List ℕ) (marks : List Bool) → length word ≡ n → length marks ≡ n
    → points ≡ picked marks (points_of (length marks)) → syndromes ≡ syndromes_of r word → IsFilling n r word marks filling
    → AreSums points (lacking marks word filling) syndromes
AreSums-lacking n r word filling syndromes points marks size marks_size points_are syndromes_are is_filling =
    let alike : length word ≡ length marks = size ∙ sym marks_size in
    let as_long : length filling ≡ length marks = is_filling.codeword.size ∙ sym marks_size in
    let bytes = lacking marks word filling in
    let count : length bytes ≡ marked marks = length-picked marks (sum_of word filling) (length-sum_of word filling (alike ∙ sym as_long) ∙ alike) in
    record {
      sums_are = λ k inside.
          let below : k < r = omega (arith, ap length syndromes_are, length-syndromes_of r word) in
          let x = power alpha k in
          let sum : power_sum bytes points k ≡ power_sum bytes (picked marks (points_of (length word))) k = ap (λ xs. power_sum bytes xs k) (points_are ∙ ap (λ m. picked marks (points_of m)) (sym alike)) in
          let vanishes : plus (value word x) (power_sum bytes points k) ≡ 0 =
          ap (plus (value word x)) sum ∙ sym (value-patched word marks bytes k alike count)
          ∙ ap (λ w. value w x) (patched-lacking word filling marks alike as_long is_filling.agrees) ∙ is_filling.codeword.vanishes k below in
          sym (plus-zero_same (value word x) (power_sum bytes points k) vanishes) ∙ sym (get_or-syndromes_of r word k below) ∙ ap (λ xs. get_or xs k 0) (sym syndromes_are);
    }

-- if the word isn't a codeword with the only bytes that can have its syndromes as sums, no codeword agrees at all
-- unmarked places
pub no_filling : (n r : ℕ) (word syndromes points found : List ℕ) (marks : List Bool) → length word ≡ n → length marks ≡ n → All IsByte word
    → points ≡ picked marks (points_of (length marks)) → syndromes ≡ syndromes_of r word → AreOnly points syndromes found
    → (IsCodeword n r (patched word marks found) → ⊥) → HasNoFilling n r word marks
no_filling n r word syndromes points found marks size marks_size all points_are syndromes_are only fails filling is_filling =
    let alike : length word ≡ length marks = size ∙ sym marks_size in
    let as_long : length filling ≡ length marks = is_filling.codeword.size ∙ sym marks_size in
    let bytes = lacking marks word filling in
    let count : length bytes ≡ length points =
    length-picked marks (sum_of word filling) (length-sum_of word filling (alike ∙ sym as_long) ∙ alike) ∙ sym (points-few marks points points_are) in
    let found_is : bytes ≡ found =
    only.only bytes count (All-picked IsByte marks (sum_of word filling) (All-sum_of word filling all is_filling.codeword.bytes))
    (AreSums-lacking n r word filling syndromes points marks size marks_size points_are syndromes_are is_filling) in
    fails (subst (IsCodeword n r) (sym (ap (patched word marks) (sym found_is) ∙ patched-lacking word filling marks alike as_long is_filling.agrees)) is_filling.codeword)
