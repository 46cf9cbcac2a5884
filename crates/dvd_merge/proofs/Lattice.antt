-- Folds of an operation whose order and repetition don't matter.
use Rattle.std.proofs.Common.{◌≡◌, ℕ, zero, suc, ◌<◌, ◌↔◌, List, [], ◌∷◌, ◌++◌, length, get_or, refl, sym, ◌∙◌, ap, arith}
use Rattle.std.specs.List.{Contains, fold}
use Rattle.std.specs.Simd.Lanes.{zip2}
use Rattle.std.proofs.lemmas.List.Elements.{Contains-get_or}
use Rattle.std.proofs.lemmas.List.Sums.{fold-append}

module _ {A : Type 0} (f : A → A → A) (comm : (x y : A) → f x y ≡ f y x) (assoc : (x y z : A) → f (f x y) z ≡ f x (f y z)) (idem : (x : A) → f x x ≡ x) where
  -- the same twice is the same once
  again : (x y : A) → f x (f x y) ≡ f x y
  again x y = sym (assoc x x y) ∙ ap (λ z. f z y) (idem x)

  -- two elements may be joined to a third in either order
  past : (x y z : A) → f x (f y z) ≡ f y (f x z)
  past x y z = sym (assoc x y z) ∙ ap (λ w. f w z) (comm x y) ∙ assoc y x z

  -- what is joined first can be joined last
  pub fold_out : (a x : A) (xs : List A) → fold f (f a x) xs ≡ f x (fold f a xs)
  fold_out a x [] = comm a x
  fold_out a x (y ∷ ys) =
      ap (λ b. fold f b ys) (assoc a x y ∙ ap (f a) (comm x y) ∙ sym (assoc a y x)) ∙ fold_out (f a y) x ys

  -- a member that is in the middle can be joined last
  pub fold_middle : (a x : A) (xs ys : List A) → fold f a (xs ++ x ∷ ys) ≡ f x (fold f a (xs ++ ys))
  fold_middle a x xs ys =
      fold-append f a xs (x ∷ ys) ∙ fold_out (fold f a xs) x ys ∙ ap (f x) (sym (fold-append f a xs ys))

  -- the start is in the join
  starts : (a : A) (xs : List A) → f a (fold f a xs) ≡ fold f a xs
  starts a [] = idem a
  starts a (x ∷ xs) = ap (f a) (fold_out a x xs) ∙ past a x (fold f a xs) ∙ ap (f x) (starts a xs) ∙ sym (fold_out a x xs)

  -- and so is each member
  absorbs : (a : A) (xs : List A) (k : ℕ) (d : A) → k < length xs → f (get_or xs k d) (fold f a xs) ≡ fold f a xs
  absorbs a [] k d within = absurd (omega (arith, within))
  absorbs a (x ∷ xs) zero d within = ap (f x) (fold_out a x xs) ∙ again x (fold f a xs) ∙ sym (fold_out a x xs)
  absorbs a (x ∷ xs) (suc k) d within = absorbs (f a x) xs k d (omega (arith, within))

  -- where each of these is in the join of those, their join is
  absorbs_all : (a : A) (xs ys : List A) → ((k : ℕ) (d : A) → k < length xs → f (get_or xs k d) (fold f a ys) ≡ fold f a ys)
      → f (fold f a xs) (fold f a ys) ≡ fold f a ys
  absorbs_all a [] ys each = starts a ys
  absorbs_all a (x ∷ xs) ys each =
      ap (λ b. f b (fold f a ys)) (fold_out a x xs) ∙ assoc x (fold f a xs) (fold f a ys)
      ∙ ap (f x) (absorbs_all a xs ys (λ k d within. each (suc k) d (omega (arith, within)))) ∙ each 0 x (omega arith)

  -- a member of a list changes nothing in the list's join
  contained : (a x : A) (xs : List A) → Contains xs x → f x (fold f a xs) ≡ fold f a xs
  contained a x xs (k, within, is) = ap (λ y. f y (fold f a xs)) (sym is) ∙ absorbs a xs k x within

  -- lists of the same members have the same join
  pub same_members : (a : A) (xs ys : List A) → ((x : A) → Contains xs x ↔ Contains ys x) → fold f a xs ≡ fold f a ys
  same_members a xs ys same =
      sym (absorbs_all a ys xs (λ k d within. contained a (get_or ys k d) xs ((same (get_or ys k d)).1 (Contains-get_or ys k d within))))
      ∙ comm (fold f a ys) (fold f a xs)
      ∙ absorbs_all a xs ys (λ k d within. contained a (get_or xs k d) ys ((same (get_or xs k d)).0 (Contains-get_or xs k d within)))

-- an operation on elements, on lists of them
module _ {A : Type 0} (f : A → A → A) where
  -- what doesn't mind the order of two elements doesn't mind that of two lists
  pub zip2-comm : ((x y : A) → f x y ≡ f y x) → (xs ys : List A) → zip2 f xs ys ≡ zip2 f ys xs
  zip2-comm comm [] [] = refl
  zip2-comm comm [] (y ∷ ys) = refl
  zip2-comm comm (x ∷ xs) [] = refl
  zip2-comm comm (x ∷ xs) (y ∷ ys) = ap (λ z. z ∷ zip2 f xs ys) (comm x y) ∙ ap (λ zs. f y x ∷ zs) (zip2-comm comm xs ys)

  -- what may be bracketed either way on elements may be on lists
  pub zip2-assoc : ((x y z : A) → f (f x y) z ≡ f x (f y z)) → (xs ys zs : List A) → zip2 f (zip2 f xs ys) zs ≡ zip2 f xs (zip2 f ys zs)
  zip2-assoc assoc [] ys zs = refl
  zip2-assoc assoc (x ∷ xs) [] zs = refl
  zip2-assoc assoc (x ∷ xs) (y ∷ ys) [] = refl
  zip2-assoc assoc (x ∷ xs) (y ∷ ys) (z ∷ zs) =
      ap (λ w. w ∷ zip2 f (zip2 f xs ys) zs) (assoc x y z) ∙ ap (λ ws. f x (f y z) ∷ ws) (zip2-assoc assoc xs ys zs)

  -- where each element joined with itself is itself, so is each list
  pub zip2-idem : ((x : A) → f x x ≡ x) → (xs : List A) → zip2 f xs xs ≡ xs
  zip2-idem idem [] = refl
  zip2-idem idem (x ∷ xs) = ap (λ y. y ∷ zip2 f xs xs) (idem x) ∙ ap (λ ys. x ∷ ys) (zip2-idem idem xs)

-- what is after the end of a list is after the end of its joins
module _ {A B C : Type 0} (g : A → B → C) where
  -- with an empty list the join is empty
  zip2-none : (xs : List A) → zip2 g xs [] ≡ []
  zip2-none [] = refl
  zip2-none (x ∷ xs) = refl

  -- row i of two joined tables is the join of their rows i, also after the end of either
  pub zip2-row : (xs : List (List A)) (ys : List (List B)) (i : ℕ) → get_or (zip2 (zip2 g) xs ys) i [] ≡ zip2 g (get_or xs i []) (get_or ys i [])
  zip2-row [] ys i = refl
  zip2-row (x ∷ xs) [] i = sym (zip2-none (get_or (x ∷ xs) i []))
  zip2-row (x ∷ xs) (y ∷ ys) zero = refl
  zip2-row (x ∷ xs) (y ∷ ys) (suc i) = zip2-row xs ys i
