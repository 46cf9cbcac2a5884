-- Places where two blocks differ, counted one after the other.
use Rattle.std.proofs.Common.{◌≡◌, ◌∙◌, ℕ, zero, suc, ◌+◌, ◌<◌, ◌≤◌, ◌==◌, if◌then◌else◌, Bool, true, false, cond, not, nat_eq, List, [], ◌∷◌, ◌++◌, length, take, get_or, refl, sym, arith, add-one}
use mir.Val.{bool_byte}
use Rattle.std.proofs.Math.Seq.{take-suc}
use Rattle.std.proofs.lemmas.Bool.Decides.{nat_tests}
use Rattle.std.proofs.lemmas.List.{length-take-le}
use Rattle.coding.specs.Distance.{distance}
use Rattle.coding.specs.Product.{line}
use Rattle.coding.specs.Found.{block_differences}

-- one byte more at the end of both words counts where the two bytes differ
distance-push : (xs ys : List ℕ) (x y : ℕ) → length xs ≡ length ys → distance (xs ++ x ∷ []) (ys ++ y ∷ []) ≡ distance xs ys + cond (nat_eq x y) 0 1
unfolding distance
distance-push [] [] x y size = omega arith
distance-push [] (b ∷ ys) x y size = absurd (omega arith)
distance-push (a ∷ xs) [] x y size = absurd (omega arith)
distance-push (a ∷ xs) (b ∷ ys) x y size =
    let rest : distance (xs ++ x ∷ []) (ys ++ y ∷ []) ≡ distance xs ys + cond (nat_eq x y) 0 1 = distance-push xs ys x y (omega arith) in
    omega arith

-- the flag that two bytes differ, as a number, is 0 where they are equal and 1 elsewhere
as_number : (same : Bool) → bool_byte (not same) ≡ cond same 0 1
as_number true = refl
as_number false = refl

-- one place counts at most one
at_most_one : (same : Bool) → cond same 0 1 ≤ 1
at_most_one true = omega arith
at_most_one false = omega arith

-- a count of differences goes on by one place
pub distance-next : (xs ys : List ℕ) (i count : ℕ) → i < length xs → i < length ys → count ≡ distance (take i xs) (take i ys)
    → count + bool_byte (not (nat_eq (get_or xs i 0) (get_or ys i 0))) ≡ distance (take (i + 1) xs) (take (i + 1) ys)
distance-next xs ys i count within_x within_y counted =
    let sizes : length (take i xs) ≡ length (take i ys) = length-take-le i xs (omega arith) ∙ sym (length-take-le i ys (omega arith)) in
    rw (add-one, take-suc xs i 0 within_x, take-suc ys i 0 within_y, distance-push (take i xs) (take i ys) (get_or xs i 0) (get_or ys i 0) sizes)
    (omega (arith, counted, as_number (nat_eq (get_or xs i 0) (get_or ys i 0))))

-- after i + 1 places at most as many are counted
pub distance-few : (x y i count : ℕ) → count ≤ i → count + bool_byte (not (nat_eq x y)) ≤ i + 1
distance-few x y i count few = omega (arith, few, as_number (nat_eq x y), at_most_one (nat_eq x y))

-- one row more at the end of both blocks adds its differences
block_differences-push : (xs ys : List (List ℕ)) (x y : List ℕ) → length xs ≡ length ys → block_differences (xs ++ x ∷ []) (ys ++ y ∷ []) ≡ block_differences xs ys + distance x y
unfolding block_differences
block_differences-push [] [] x y size = omega arith
block_differences-push [] (b ∷ ys) x y size = absurd (omega arith)
block_differences-push (a ∷ xs) [] x y size = absurd (omega arith)
block_differences-push (a ∷ xs) (b ∷ ys) x y size =
    let rest : block_differences (xs ++ x ∷ []) (ys ++ y ∷ []) ≡ block_differences xs ys + distance x y = block_differences-push xs ys x y (omega arith) in
    omega arith

-- a count of differences goes on by one row
pub block_differences-next : (xs ys : List (List ℕ)) (i count more : ℕ) → i < length xs → i < length ys → count ≡ block_differences (take i xs) (take i ys)
    → more ≡ distance (line xs i) (line ys i) → count + more ≡ block_differences (take (i + 1) xs) (take (i + 1) ys)
block_differences-next xs ys i count more within_x within_y counted row =
    let sizes : length (take i xs) ≡ length (take i ys) = length-take-le i xs (omega arith) ∙ sym (length-take-le i ys (omega arith)) in
    rw (add-one, take-suc xs i [] within_x, take-suc ys i [] within_y, block_differences-push (take i xs) (take i ys) (line xs i) (line ys i) sizes)
    (omega (arith, counted, row))

-- empty words differ nowhere
pub distance-none : distance [] [] ≡ 0
unfolding distance
distance-none = refl

-- blocks without rows differ nowhere
pub block_differences-none : block_differences [] [] ≡ 0
unfolding block_differences
block_differences-none = refl

-- where no difference is counted the first bytes are equal
same-head : (x y rest : ℕ) → (if x == y then 0 else 1) + rest ≡ 0 → x ≡ y
same-head x y rest none = grind (arith, nat_tests)

-- words that differ nowhere are the same
words-same : (xs ys : List ℕ) → length xs ≡ length ys → distance xs ys ≡ 0 → xs ≡ ys
unfolding distance
words-same [] [] size none = refl
words-same [] (y ∷ ys) size none = absurd (omega arith)
words-same (x ∷ xs) [] size none = absurd (omega arith)
words-same (x ∷ xs) (y ∷ ys) size none =
    let head : x ≡ y = same-head x y (distance xs ys) none in
    let rest : xs ≡ ys = words-same xs ys (omega arith) (omega (arith, none)) in
    cc

-- of blocks that differ nowhere no row differs
lines-same : (xs ys : List (List ℕ)) (i : ℕ) → block_differences xs ys ≡ 0 → i < length xs → i < length ys → distance (line xs i) (line ys i) ≡ 0
unfolding block_differences
lines-same [] ys i none within other = absurd (omega arith)
lines-same (x ∷ xs) [] i none within other = absurd (omega arith)
lines-same (x ∷ xs) (y ∷ ys) zero none within other = omega (arith, none)
lines-same (x ∷ xs) (y ∷ ys) (suc i) none within other = lines-same xs ys i (omega (arith, none)) (omega arith) (omega arith)

-- so rows of the same width are the same in blocks that differ nowhere
pub rows-same : (xs ys : List (List ℕ)) (i : ℕ) → block_differences xs ys ≡ 0 → i < length xs → i < length ys → length (line xs i) ≡ length (line ys i)
    → line xs i ≡ line ys i
rows-same xs ys i none within other size = words-same (line xs i) (line ys i) size (lines-same xs ys i none within other)
