-- Words are tested by their values, of 32 words at once.
use Rattle.std.proofs.Common.{◌≡◌, ◌↔◌, ℕ, ◌<◌, List, length, get_or, All, sym, ◌∙◌}
use Rattle.coding.specs.Field.{alpha, power}
use Rattle.coding.specs.Words.{IsByte, IsCodeword, value}
use Rattle.coding.specs.Product.{place}

-- 32 words of n bytes are codewords where the lanes that join their values are zeros
pub codewords_tested : (n r : ℕ) (words : ℕ → List ℕ) (values : List (List ℕ)) (joined : List ℕ)
    → ((j : ℕ) → j < 32 → length (words j) ≡ n) → ((j : ℕ) → j < 32 → All IsByte (words j))
    → ((k j : ℕ) → k < r → j < 32 → place values k j ≡ value (words j) (power alpha k))
    → ((j : ℕ) → j < 32 → (get_or joined j 0 ≡ 0) ↔ ((k : ℕ) → k < r → place values k j ≡ 0))
    → ((j : ℕ) → j < 32 → get_or joined j 0 ≡ 0) ↔ ((j : ℕ) → j < 32 → IsCodeword n r (words j))
codewords_tested n r words values joined sizes bytes are say = (
  (λ zeros j below. record {
    size = sizes j below;
    bytes = bytes j below;
    vanishes = λ k few. sym (are k j few below) ∙ (say j below).0 (zeros j below) k few;
  }),
  (λ codewords j below. (say j below).1 (λ k few. are k j few below ∙ (codewords j below).vanishes k few)),
)
