-- Pieces of known sizes, one after the other.
use Rattle.std.proofs.Common.{◌≡◌, ◌∙◌, inl, inr, ℕ, zero, suc, ◌+◌, ◌-◌, ◌*◌, ◌<◌, ◌≤◌, List, [], ◌∷◌, ◌++◌, length, length-append, take, drop, refl, ap, sym, subst, append_assoc, append-nil, arith}
use Rattle.std.specs.List.{flat_map, range_with_len}
use Rattle.std.proofs.Math.Nat.{mul-suc, mul-zero}
use Rattle.std.proofs.Math.Seq.{take-add}
use Rattle.std.proofs.lemmas.Bool.{cases_lt}
use Rattle.dvd_capture.proofs.Fetching.{part-append, part-after}
use Rattle.dvd_loop.specs.Laws.{IsPrefixOf}
use Rattle.dvd_loop.proofs.Over.{start, start-le, start-suc, start-zero}

-- one piece more
pieces-more : (f : ℕ → List ℕ) (a n j : ℕ) → a + n ≡ j → flat_map f (range_with_len a (suc n)) ≡ flat_map f (range_with_len a n) ++ f j
pieces-more f a zero j is = let here : a ≡ j = omega arith in append-nil (f a) ∙ ap f here
pieces-more f a (suc n) j is =
    ap (λ l. f a ++ l) (pieces-more f (a + 1) n j (omega arith)) ∙ sym (append_assoc (f a) (flat_map f (range_with_len (a + 1) n)) (f j))

-- n pieces of one size have n times as many elements
pub start-same : (size n : ℕ) → start (λ k. size) n ≡ size * n
start-same size zero = start-zero (λ k. size) ∙ sym (mul-zero size)
start-same size (suc n) = omega (arith, start-suc (λ k. size) n, start-same size n, mul-suc size n)

-- n pieces have as many elements as their sizes together
pub length-pieces : (f : ℕ → List ℕ) (size : ℕ → ℕ) (n : ℕ) → ((k : ℕ) → k < n → length (f k) ≡ size k)
    → length (flat_map f (range_with_len 0 n)) ≡ start size n
length-pieces f size zero each = sym (start-zero size)
length-pieces f size (suc n) each =
    ap length (pieces-more f 0 n n (omega arith)) ∙ length-append (flat_map f (range_with_len 0 n)) (f n)
    ∙ omega (arith, length-pieces f size n (λ k lt. each k (omega arith)), each n (omega arith), start-suc size n)

-- piece k comes after those before it
pub piece-at : (f : ℕ → List ℕ) (size : ℕ → ℕ) (n k : ℕ) → ((j : ℕ) → j < n → length (f j) ≡ size j) → k < n
    → take (size k) (drop (start size k) (flat_map f (range_with_len 0 n))) ≡ f k
piece-at f size zero k each lt = absurd (omega arith)
piece-at f size (suc n) k each lt =
    let before = flat_map f (range_with_len 0 n) in
    let sizes : (j : ℕ) → j < n → length (f j) ≡ size j = λ j below. each j (omega arith) in
    let all : length before ≡ start size n = length-pieces f size n sizes in
    ap (λ l. take (size k) (drop (start size k) l)) (pieces-more f 0 n n (omega arith)) ∙ elim (cases_lt k n) [
      | inl below ↦
          let last : suc k + (n - suc k) ≡ n = omega arith in
          let further : start size (suc k) ≤ start size n = subst (λ m. start size (suc k) ≤ start size m) last (start-le size (suc k) (n - suc k)) in
          part-append before (f n) (start size k) (size k) (omega (arith, all, further, start-suc size k)) ∙ piece-at f size n k sizes below
      | inr not ↦
          let is : n ≡ k = omega arith in
          subst (λ i. take (size i) (drop (start size i) (before ++ f n)) ≡ f i) is (part-after before (f n) (start size n) (size n) all (each n (omega arith)))
    ]

-- the pieces that bytes consist of are the front of them
pub pieces-prefix : (size : ℕ → ℕ) (all : List ℕ) (n : ℕ)
    → flat_map (λ k. take (size k) (drop (start size k) all)) (range_with_len 0 n) ≡ take (start size n) all
pieces-prefix size all zero = ap (λ m. take m all) (sym (start-zero size))
pieces-prefix size all (suc n) =
    pieces-more (λ k. take (size k) (drop (start size k) all)) 0 n n (omega arith)
    ∙ ap (λ l. l ++ take (size n) (drop (start size n) all)) (pieces-prefix size all n)
    ∙ sym (take-add (start size n) (size n) all)
    ∙ ap (λ m. take m all) (sym (start-suc size n))

-- the first elements of a list are the front of those of a longer one
take-prefix : (n : ℕ) (xs ys : List ℕ) → IsPrefixOf (take n xs) (take n (xs ++ ys))
take-prefix zero xs ys = ([], refl)
take-prefix (suc n) [] ys = (take (suc n) ys, refl)
take-prefix (suc n) (x ∷ xs) ys = let (left, is) = take-prefix n xs ys in (left, ap (λ l. x ∷ l) is)

-- and so is a part further on
part-longer : (n p : ℕ) (xs ys : List ℕ) → IsPrefixOf (take n (drop p xs)) (take n (drop p (xs ++ ys)))
part-longer n zero xs ys = take-prefix n xs ys
part-longer n (suc p) [] ys = take-prefix n [] (drop (suc p) ys)
part-longer n (suc p) (x ∷ xs) ys = part-longer n p xs ys

-- a part of the front of a list is the front of the part
pub prefix-part : (n p : ℕ) (xs all : List ℕ) → IsPrefixOf xs all → IsPrefixOf (take n (drop p xs)) (take n (drop p all))
prefix-part n p xs all (left, is) = subst (λ l. IsPrefixOf (take n (drop p xs)) (take n (drop p l))) (sym is) (part-longer n p xs left)
