-- The list of syndromes, one after the other.
use Rattle.std.proofs.Common.{◌≡◌, ℕ, ◌+◌, ◌<◌, List, [], ◌∷◌, ◌++◌, length, get_or, refl, sym, ◌∙◌, arith, zero-add}
use Rattle.std.proofs.lemmas.List.FromFn.{map-range_with_len_more, length-map-range_with_len, get_or-map-range_with_len}
use Rattle.std.proofs.lemmas.Grind.{same_number_lists}
use Rattle.coding.specs.Field.{alpha, power}
use Rattle.coding.specs.Words.{value}
use Rattle.rs_code.specs.Syndromes.{syndromes_of}

-- no syndromes are the empty list
pub syndromes_of-none : (word : List ℕ) → syndromes_of 0 word ≡ []
unfolding syndromes_of
syndromes_of-none word = refl

-- one syndrome more comes after the others
pub syndromes_of-more : (r : ℕ) (word : List ℕ) → syndromes_of (r + 1) word ≡ syndromes_of r word ++ value word (power alpha r) ∷ []
unfolding syndromes_of
syndromes_of-more r word = map-range_with_len_more (λ k. value word (power alpha k)) 0 r r (zero-add r)

-- r syndromes are r values
pub length-syndromes_of : (r : ℕ) (word : List ℕ) → length (syndromes_of r word) ≡ r
unfolding syndromes_of
length-syndromes_of r word = length-map-range_with_len (λ k. value word (power alpha k)) 0 r

-- syndrome k is the word's value at alpha^k
pub get_or-syndromes_of : (r : ℕ) (word : List ℕ) (k : ℕ) → k < r → get_or (syndromes_of r word) k 0 ≡ value word (power alpha k)
unfolding syndromes_of
get_or-syndromes_of r word k below = get_or-map-range_with_len (λ j. value word (power alpha j)) 0 r k k 0 below (zero-add k)

-- words with the same values have the same syndromes
pub syndromes_of-same : (r : ℕ) (a b : List ℕ) → ((k : ℕ) → k < r → value a (power alpha k) ≡ value b (power alpha k)) → syndromes_of r a ≡ syndromes_of r b
syndromes_of-same r a b same =
    let long : length (syndromes_of r a) ≡ r = length-syndromes_of r a in
    same_number_lists (syndromes_of r a) (syndromes_of r b) (long ∙ sym (length-syndromes_of r b))
    (λ k below. let inside : k < r = omega arith in get_or-syndromes_of r a k inside ∙ same k inside ∙ sym (get_or-syndromes_of r b k inside))
