-- What a received word with marks decodes to: the codeword near it, if there is one, by a search through all words. The
-- code computes syndromes and a locator instead. So this definition needs no theory of decoders.
use Rattle.std.specs.Prelude.{ℕ, zero, suc, Bool, ◌&&◌, ◌==◌, nat_lt, nat_le, List, [], ◌∷◌, length, map, find}
use Rattle.std.specs.List.{flat_map, range_with_len, list_all}
use Rattle.std.specs.declared.option.Option.{Option}
use Rattle.coding.specs.Field.{alpha, power}
use Rattle.coding.specs.Words.{value, cost}

-- every word of n bytes
unfoldable pub all_words : ℕ → List (List ℕ)
all_words zero = [] ∷ []
all_words (suc n) = flat_map (λ byte. map (λ word. byte ∷ word) (all_words n)) (range_with_len 0 256)

-- whether the values of a word at alpha^0 to alpha^(r-1) are all 0
unfoldable pub vanishes_at_all : ℕ → List ℕ → Bool
vanishes_at_all r word = list_all (λ k. value word (power alpha k) == 0) (range_with_len 0 r)

-- whether a word of n bytes is a codeword near the received one
unfoldable pub is_near : ℕ → ℕ → List ℕ → List Bool → List ℕ → Bool
is_near n r received marks word =
    (length word == n) && list_all (λ byte. nat_lt byte 256) word && vanishes_at_all r word && nat_le (cost word received marks) r

-- the codeword near the received word, or none
unfoldable pub near_of : ℕ → ℕ → List ℕ → List Bool → Option (List ℕ)
near_of n r received marks = find (is_near n r received marks) (all_words n)
