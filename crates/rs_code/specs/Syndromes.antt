-- The syndromes of a word. In a codeword all of them are 0 (ECMA-267, clause 18).
use Rattle.std.specs.Prelude.{ℕ, List, map}
use Rattle.std.specs.List.{range_with_len}
use Rattle.coding.specs.Field.{alpha, power}
use Rattle.coding.specs.Words.{value}

-- the values of a word at alpha^0 to alpha^(r-1), in this order; the code reads the word once for all of them
unfoldable pub syndromes_of : ℕ → List ℕ → List ℕ
syndromes_of r word = map (λ k. value word (power alpha k)) (range_with_len 0 r)
