-- Places where two words differ, counted from the first place.
use Rattle.std.proofs.Common.{◌≡◌, ◌≢◌, ℕ, ◌+◌, ◌<◌, ◌≤◌, List, length, get_or, drop, cond, eqb, sym, ◌∙◌, ap, ap₂, add-one, arith}
use Rattle.std.proofs.lemmas.Bool.Decides.{nat_tests}
use Rattle.std.proofs.Math.Seq.{drop-cons}
use Rattle.std.proofs.lemmas.List.{drop_all}
use Rattle.coding.specs.Distance.{distance}

-- one place more
pub distance-next : (xs ys : List ℕ) (i : ℕ) → i < length xs → i < length ys
    → distance (drop i xs) (drop i ys) ≡ cond (eqb (get_or xs i 0) (get_or ys i 0)) 0 1 + distance (drop (i + 1) xs) (drop (i + 1) ys)
unfolding distance
distance-next xs ys i xs_within ys_within =
    ap₂ distance (drop-cons xs i 0 xs_within) (drop-cons ys i 0 ys_within)
    ∙ ap (λ (k : ℕ). cond (eqb (get_or xs i 0) (get_or ys i 0)) 0 1 + distance (drop k xs) (drop k ys)) (sym (add-one i))

-- no place is left
pub distance-end : (xs ys : List ℕ) (i : ℕ) → length xs ≤ i → distance (drop i xs) (drop i ys) ≡ 0
unfolding distance
distance-end xs ys i all = ap (λ (l : List ℕ). distance l (drop i ys)) (drop_all i xs all)

-- a place where the words differ counts one
pub differ-counts : (x y : ℕ) → x ≢ y → ◌≡◌ {A = ℕ} (cond (eqb x y) 0 1) 1
differ-counts x y differ = grind (arith, nat_tests)

-- and one where they agree counts nothing
pub same-counts : (x y : ℕ) → x ≡ y → ◌≡◌ {A = ℕ} (cond (eqb x y) 0 1) 0
same-counts x y same = grind (arith, nat_tests)
