-- Division of polynomials over two bits: how many bits a sum has, two sums as one, and the steps of a division in two
-- parts.
use Rattle.std.proofs.Common.{◌≡◌, ℕ, zero, suc, ◌+◌, ◌≤◌, List, [], ◌∷◌, length, cond, eqb, refl, sym, ◌∙◌, ap, ap₂, zero-add, arith}
use Rattle.std.specs.Int.Bits.{xor_assoc}
use Rattle.coding.specs.BitDivision.{plus_prefix, remainder_by}

-- what is added to the front of a list leaves its length
pub length-plus_prefix : (xs ys : List ℕ) → length (plus_prefix xs ys) ≡ length xs
unfolding plus_prefix
length-plus_prefix xs [] = refl
length-plus_prefix [] (y ∷ ys) = refl
length-plus_prefix (x ∷ xs) (y ∷ ys) = ap suc (length-plus_prefix xs ys)

-- two additions are one of the sum
pub plus_prefix_twice : (rest a b : List ℕ) → length b ≤ length a → plus_prefix (plus_prefix rest a) b ≡ plus_prefix rest (plus_prefix a b)
unfolding plus_prefix
plus_prefix_twice rest a [] within = refl
plus_prefix_twice [] (y ∷ a) (z ∷ b) within = refl
plus_prefix_twice (x ∷ rest) (y ∷ a) (z ∷ b) within =
    ap₂ (λ (bit : ℕ) (l : List ℕ). bit ∷ l) (xor_assoc x y z) (plus_prefix_twice rest a b (omega arith))
plus_prefix_twice rest [] (z ∷ b) within = absurd (omega arith)

-- nothing leaves nothing
remainder_by_none : (divisor : List ℕ) (n : ℕ) → remainder_by divisor n [] ≡ []
unfolding remainder_by
remainder_by_none divisor zero = refl
remainder_by_none divisor (suc n) = refl

-- m steps and then n
pub remainder_by_twice : (divisor : List ℕ) (m n : ℕ) (ys : List ℕ) → remainder_by divisor (m + n) ys ≡ remainder_by divisor n (remainder_by divisor m ys)
unfolding remainder_by
remainder_by_twice divisor zero n ys = ap (λ (k : ℕ). remainder_by divisor k ys) (zero-add n)
remainder_by_twice divisor (suc m) n [] = remainder_by_none divisor (suc m + n) ∙ sym (remainder_by_none divisor n)
remainder_by_twice divisor (suc m) n (y ∷ ys) =
    let more : suc m + n ≡ suc (m + n) = omega arith in
    ap (λ (k : ℕ). remainder_by divisor k (y ∷ ys)) more ∙ remainder_by_twice divisor m n (cond (eqb y 1) (plus_prefix ys divisor) ys)
