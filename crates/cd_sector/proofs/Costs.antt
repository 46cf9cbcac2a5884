-- What a word costs against one that was read and differs in one place alone.
use Rattle.std.proofs.Common.{◌≡◌, ◌≢◌, ℕ, zero, suc, ◌*◌, ◌<◌, ◌≤◌, List, [], ◌∷◌, length, get_or, Bool, true, false, cond, eqb, refl, arith}
use Rattle.std.specs.Prelude.{replicate}
use Rattle.std.proofs.lemmas.Bool.Decides.{nat_tests}
use Rattle.coding.specs.Words.{cost}
use Rattle.coding.specs.Distance.{distance}

-- a place without a mark costs twice what it counts in the distance
twice : (same : Bool) → ◌≡◌ {A = ℕ} (cond same 0 2) (2 * cond same 0 1)
twice true = refl
twice false = refl

-- a word without marks
pub cost_unmarked : (n : ℕ) (word received : List ℕ) → length word ≡ n → length received ≡ n → cost word received (replicate n false) ≡ 2 * distance word received
unfolding cost distance
cost_unmarked zero [] received word_size size = refl
cost_unmarked zero (x ∷ word) received word_size size = absurd (omega arith)
cost_unmarked (suc n) [] received word_size size = absurd (omega arith)
cost_unmarked (suc n) (x ∷ word) [] word_size size = absurd (omega arith)
cost_unmarked (suc n) (x ∷ word) (y ∷ received) word_size size =
    omega (arith, twice (eqb x y), cost_unmarked n word received (omega arith) (omega arith))

-- a place without a mark costs nothing where the words agree
share_none : (mark : Bool) (x y : ℕ) → mark ≡ false → x ≡ y → ◌≡◌ {A = ℕ} (cond mark 1 (cond (eqb x y) 0 2)) 0
share_none true x y unmarked same = grind (arith, nat_tests)
share_none false x y unmarked same = grind (arith, nat_tests)

-- one place costs at most two
share_few : (mark same : Bool) → cond mark 1 (cond same 0 2) ≤ 2
share_few true same = omega arith
share_few false true = omega arith
share_few false false = omega arith

-- words that are the same at places without marks
cost_same : (word received : List ℕ) (marks : List Bool) → ((m : ℕ) → m < length word → get_or word m 0 ≡ get_or received m 0)
    → ((m : ℕ) → m < length word → get_or marks m false ≡ false) → cost word received marks ≡ 0
unfolding cost
cost_same [] received marks same unmarked = refl
cost_same (x ∷ word) [] marks same unmarked = refl
cost_same (x ∷ word) (y ∷ received) [] same unmarked = refl
cost_same (x ∷ word) (y ∷ received) (mark ∷ marks) same unmarked =
    omega (
      arith,
      share_none mark x y (unmarked 0 (omega arith)) (same 0 (omega arith)),
      cost_same word received marks (λ m below. same (suc m) (omega arith)) (λ m below. unmarked (suc m) (omega arith)),
    )

-- words that are the same at all places but one, which alone may be marked
pub cost_one : (j : ℕ) (word received : List ℕ) (marks : List Bool) → ((m : ℕ) → m < length word → m ≢ j → get_or word m 0 ≡ get_or received m 0)
    → ((m : ℕ) → m < length word → m ≢ j → get_or marks m false ≡ false) → cost word received marks ≤ 2
unfolding cost
cost_one j [] received marks same unmarked = omega arith
cost_one j (x ∷ word) [] marks same unmarked = omega arith
cost_one j (x ∷ word) (y ∷ received) [] same unmarked = omega arith
cost_one zero (x ∷ word) (y ∷ received) (mark ∷ marks) same unmarked =
    omega (
      arith,
      share_few mark (eqb x y),
      cost_same word received marks (λ m below. same (suc m) (omega arith) (λ is. omega (arith, is))) (λ m below. unmarked (suc m) (omega arith) (λ is. omega (arith, is))),
    )
cost_one (suc j) (x ∷ word) (y ∷ received) (mark ∷ marks) same unmarked =
    omega (
      arith,
      share_none mark x y (unmarked 0 (omega arith) (λ is. omega (arith, is))) (same 0 (omega arith) (λ is. omega (arith, is))),
      cost_one j word received marks (λ m below other. same (suc m) (omega arith) (λ is. other (omega (arith, is)))) (λ m below other. unmarked (suc m) (omega arith) (λ is. other (omega (arith, is)))),
    )
