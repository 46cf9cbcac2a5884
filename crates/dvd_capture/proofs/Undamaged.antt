-- A block without damage and without marks is within the bound.
use Rattle.std.proofs.Common.{◌≡◌, ◌∙◌, ℕ, zero, suc, ◌+◌, nat_le, nat_lt, if◌then◌else◌, false, List, [], ◌∷◌, replicate, refl, ap, arith}
use Rattle.std.proofs.lemmas.Bool.Decides.{nat_tests}
use Rattle.coding.specs.Words.{cost}
use Rattle.coding.specs.Filling.{marked}
use Rattle.dvd_capture.specs.Captured.{captured_marks}
use Rattle.coding.specs.Within.{IsWithin, block_weight}
use Rattle.dvd_capture.specs.declared.form.Form.TheVariants.{Plain}

-- no place of a plain row is marked
pub plain_marks : (own : List ℕ) → captured_marks Plain own ≡ replicate 208 (replicate 182 false)
unfolding captured_marks
plain_marks own = refl

-- a word costs nothing against itself, and a block weighs nothing
cost-itself : (word : List ℕ) (n : ℕ) → cost word word (replicate n false) ≡ 0
unfolding cost
cost-itself [] n = refl
cost-itself (byte ∷ word) zero = refl
cost-itself (byte ∷ word) (suc n) = grind (arith, nat_tests, cost-itself word n)

-- and a block of such words weighs nothing
weight-itself : (block : List (List ℕ)) (n : ℕ) → block_weight block block (replicate n (replicate 182 false)) ≡ 0
unfolding block_weight
weight-itself [] n = refl
weight-itself (word ∷ block) zero = refl
weight-itself (word ∷ block) (suc n) =
    ap (λ (c : ℕ). (if nat_le c 10 then 0 else if nat_lt 10 (marked (replicate 182 false)) then 1 else 2) + block_weight block block (replicate n (replicate 182 false))) (cost-itself word 182)
    ∙ omega (arith, weight-itself block n)

-- so a plain block that is as it was recorded is within the bound
pub undamaged_within : (block : List (List ℕ)) (own : List ℕ) → IsWithin block block (captured_marks Plain own)
undamaged_within block own = rw (plain_marks own) (omega (arith, weight-itself block 208))
