-- The values of 32 words at the powers of alpha, as vectors: what a lane of them says of its word.
use Rattle.std.proofs.Common.{◌≡◌, ◌∙◌, ℕ, ◌<◌, false, true, List, length, All, sym, arith}
use Rattle.std.proofs.lemmas.Grind.{same_number_lists}
use Rattle.coding.specs.Field.{alpha, power}
use Rattle.coding.specs.Words.{IsByte, value}
use Rattle.rs_code.specs.Syndromes.{syndromes_of}
use Rattle.rs_code.proofs.Syndromes.{get_or-syndromes_of, length-syndromes_of}
use Rattle.coding.specs.Nearest.{vanishes_at_all}
use Rattle.rs_decode.proofs.NearSearch.{codeword-vanishes}
use Rattle.rs_lanes.proofs.ColumnLemmas.{get_or-column, length-column}
use Rattle.coding.specs.Product.{column, place}
use Rattle.dvd_read.proofs.ColumnAnswers.{codeword_tested}

-- a lane that has the values of a word has its syndromes
pub lane-syndromes : (r n : ℕ) (values : List (List ℕ)) (word : List ℕ) → length values ≡ r
    → ((k : ℕ) → k < r → place values k n ≡ value word (power alpha k)) → column values n ≡ syndromes_of r word
lane-syndromes r n values word size same =
    same_number_lists (column values n) (syndromes_of r word) (length-column values n ∙ size ∙ sym (length-syndromes_of r word))
    (λ k within.
    let inside : k < r = omega (arith, length-column values n, size) in
    get_or-column values n k ∙ same k inside ∙ sym (get_or-syndromes_of r word k inside))

-- bytes whose values are zeros pass the test of a codeword
pub zeros-pass : (row : List ℕ) → length row ≡ 182 → All IsByte row → ((k : ℕ) → k < 10 → value row (power alpha k) ≡ 0) → vanishes_at_all 10 row ≡ true
zeros-pass row size bytes zeros = codeword-vanishes 182 10 row (record { size = size; bytes = bytes; vanishes = zeros })

-- and bytes whose values aren't all zeros fail it
pub others-fail : (row : List ℕ) → length row ≡ 182 → All IsByte row → (((k : ℕ) → k < 10 → value row (power alpha k) ≡ 0) → ⊥) → vanishes_at_all 10 row ≡ false
others-fail row size bytes others = sym (codeword_tested false row size bytes ((λ no. cc), (λ codeword. absurd (others codeword.vanishes))))
