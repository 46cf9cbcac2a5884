-- The near codeword, found among all words: it is found exactly where there is one.
use Rattle.std.proofs.Common.{◌≡◌, ◌⊎◌, ◌∙◌, ℕ, zero, suc, ◌<◌, ◌≤◌, Bool, true, false, cond, ◌&&◌, ◌==◌, nat_eq, nat_lt, nat_le, List, [], ◌∷◌, ◌++◌, length, map, find, get_or, All, inl, inr, refl, sym, ap, subst, arith, zero-add, Some, None}
use Rattle.std.specs.List.{flat_map, range_with_len, list_all}
use Rattle.std.specs.declared.option.Option.{Option}
use Rattle.std.proofs.lemmas.Bool.{and_from, and_parts, eqb-true, eq-eqb, ltb-true, lt-ltb, leb-true, le-leb}
use Rattle.std.proofs.lemmas.List.Elements.{All-tail}
use Rattle.std.proofs.lemmas.List.FromFn.{length-range_with_len, get_or-range_with_len}
use Rattle.std.proofs.lemmas.List.Sums.{AllPass-from_list_all, list_all-from_AllPass}
use Rattle.coding.specs.Field.{alpha, power}
use Rattle.coding.specs.Words.{IsByte, IsCodeword, IsNear, value, cost}
use Rattle.rs_decode.specs.Errors.{HasNoneNear}
use Rattle.coding.specs.Filling.{AgreeUnmarked}
use Rattle.coding.specs.Nearest.{all_words, is_near, near_of, vanishes_at_all}
use Rattle.rs_decode.proofs.OneNear.{cost-alike, near_once}

-- x is an element of a list
abbrev Member : {X : Type 0} → List X → X → Type 0
Member [] x = ⊥
Member (y ∷ ys) x = (y ≡ x) ⊎ Member ys x

-- an element of the first list is one of the joined lists
member-append_left : {X : Type 0} (x : X) (xs ys : List X) → Member xs x → Member (xs ++ ys) x
member-append_left x [] ys is = absurd is
member-append_left x (y ∷ xs) ys (inl same) = inl same
member-append_left x (y ∷ xs) ys (inr later) = inr (member-append_left x xs ys later)

-- an element of the second list is one of the joined lists
member-append_right : {X : Type 0} (x : X) (xs ys : List X) → Member ys x → Member (xs ++ ys) x
member-append_right x [] ys is = is
member-append_right x (y ∷ xs) ys is = inr (member-append_right x xs ys is)

-- a function's value at an element is an element of the values
member-map : {X Y : Type 0} (f : X → Y) (x : X) (xs : List X) → Member xs x → Member (map f xs) (f x)
member-map f x [] is = absurd is
member-map f x (y ∷ xs) (inl same) = inl (ap f same)
member-map f x (y ∷ xs) (inr later) = inr (member-map f x xs later)

-- an element of the list that belongs to an element is one of all these lists joined
member-flat_map : {X Y : Type 0} (f : X → List Y) (x : X) (y : Y) (xs : List X) → Member xs x → Member (f x) y → Member (flat_map f xs) y
member-flat_map f x y [] is inner = absurd is
member-flat_map f x y (z ∷ xs) (inl same) inner =
    member-append_left y (f z) (flat_map f xs) (subst (λ w. Member (f w) y) (sym same) inner)
member-flat_map f x y (z ∷ xs) (inr later) inner = member-append_right y (f z) (flat_map f xs) (member-flat_map f x y xs later inner)

-- what is at a place of a list is an element of it
member-at : {X : Type 0} (xs : List X) (i : ℕ) (d : X) → i < length xs → Member xs (get_or xs i d)
member-at [] i d within = absurd (omega arith)
member-at (x ∷ xs) zero d within = inl refl
member-at (x ∷ xs) (suc i) d within = inr (member-at xs i d (omega arith))

-- the first element of a list passes, or the search goes on
none-step : {X : Type 0} (p : X → Bool) (y x : X) (xs : List X) (rest : Option X) (b : Bool) → p y ≡ b → (rest ≡ None → Member xs x → ⊥)
    → cond b (Some y) rest ≡ None → Member (y ∷ xs) x → p x ≡ true → ⊥
none-step p y x xs rest true is later found member passes = cc
none-step p y x xs rest false is later found (inl same) passes = let e : p y ≡ p x = ap p same in cc
none-step p y x xs rest false is later found (inr member) passes = later found member

-- a search finds nothing only where nothing passes
find-none : {X : Type 0} (p : X → Bool) (xs : List X) (x : X) → p x ≡ true → find p xs ≡ None → Member xs x → ⊥
find-none p [] x passes found member = member
find-none p (y ∷ xs) x passes found member =
    none-step p y x xs (find p xs) (p y) refl (find-none p xs x passes) found member passes

-- what is found is the first element, which passes, or was found among the others
some-step : {X : Type 0} (p : X → Bool) (y x : X) (rest : Option X) (b : Bool) → p y ≡ b → (rest ≡ Some x → p x ≡ true)
    → cond b (Some y) rest ≡ Some x → p x ≡ true
some-step p y x rest true is later found = let same : y ≡ x = cc in subst (λ z. p z ≡ true) same is
some-step p y x rest false is later found = later found

-- what a search finds passes
pub find-some : {X : Type 0} (p : X → Bool) (xs : List X) (x : X) → find p xs ≡ Some x → p x ≡ true
find-some p [] x found = cc
find-some p (y ∷ xs) x found = some-step p y x (find p xs) (p y) refl (find-some p xs x) found

-- every word of n bytes is among all of them
member-all_words : (n : ℕ) (word : List ℕ) → length word ≡ n → All IsByte word → Member (all_words n) word
unfolding all_words
member-all_words zero [] size bytes = inl refl
member-all_words zero (byte ∷ word) size bytes = absurd (omega arith)
member-all_words (suc n) [] size bytes = absurd (omega arith)
member-all_words (suc n) (byte ∷ word) size bytes =
    let small : byte < 256 = bytes 0 0 (omega arith) in
    let at = member-at (range_with_len 0 256) byte 0 (rw length-range_with_len small) in
    let is : Member (range_with_len 0 256) byte = subst (Member (range_with_len 0 256)) (get_or-range_with_len 0 256 byte 0 small ∙ zero-add byte) at in
    let rest = member-all_words n word (omega arith) (All-tail IsByte byte word bytes) in
    member-flat_map (λ b. map (λ w. b ∷ w) (all_words n)) byte (byte ∷ word) (range_with_len 0 256) is (member-map (λ w. byte ∷ w) word (all_words n) rest)

-- a test of all numbers below r tests each
tested_at : (test : ℕ → Bool) (r k : ℕ) → k < r → list_all test (range_with_len 0 r) ≡ true → test k ≡ true
tested_at test r k below passes =
    let here : k < length (range_with_len 0 r) = rw length-range_with_len below in
    let passed = AllPass-from_list_all test (range_with_len 0 r) passes k 0 here in
    subst (λ n. test n ≡ true) (get_or-range_with_len 0 r k 0 below ∙ zero-add k) passed

-- and where it holds of each number below r, the test of all is true
tests_all : (test : ℕ → Bool) (r : ℕ) → ((k : ℕ) → k < r → test k ≡ true) → list_all test (range_with_len 0 r) ≡ true
tests_all test r each =
    list_all-from_AllPass test (range_with_len 0 r)
    (λ k d within.
    let below : k < r = subst (λ n. k < n) (length-range_with_len 0 r) within in
    subst (λ n. test n ≡ true) (sym (get_or-range_with_len 0 r k d below ∙ zero-add k)) (each k below))

-- a word that passes the test is near
near-from_test : (n r : ℕ) (received word : List ℕ) (marks : List Bool) → length received ≡ n → length marks ≡ n
    → is_near n r received marks word ≡ true → IsNear n r received marks word
unfolding is_near vanishes_at_all
near-from_test n r received word marks received_size marks_size passes =
    let cheap = and_parts _ _ passes in
    let vanishing = and_parts _ _ cheap.0 in
    let sized = and_parts _ _ vanishing.0 in
    let test : ℕ → Bool = λ k. nat_eq (value word (power alpha k)) 0 in
    let at_each : (k : ℕ) → k < r → test k ≡ true = λ k below. tested_at test r k below vanishing.1 in
    record {
      codeword = record {
        size = eqb-true _ _ sized.0;
        bytes = λ k d within. ltb-true _ _ (AllPass-from_list_all (λ byte. nat_lt byte 256) word sized.1 k d within);
        vanishes = λ k below. eqb-true _ _ (at_each k below);
      };
      received_size = received_size;
      marks_size = marks_size;
      within = leb-true _ _ cheap.1;
    }

-- a codeword that is near passes the test
test-from_near : (n r : ℕ) (received word : List ℕ) (marks : List Bool) → IsNear n r received marks word → is_near n r received marks word ≡ true
unfolding is_near vanishes_at_all
test-from_near n r received word marks near =
    and_from _ _
    (and_from _ _
    (and_from _ _ (eq-eqb (length word) n near.codeword.size)
    (list_all-from_AllPass (λ byte. nat_lt byte 256) word (λ k d within. lt-ltb _ _ (near.codeword.bytes k d within))))
    (tests_all (λ k. nat_eq (value word (power alpha k)) 0) r (λ k below. eq-eqb _ _ (near.codeword.vanishes k below))))
    (le-leb (cost word received marks) r near.within)

-- what is found is near
pub near_of-is_near : (n r : ℕ) (received word : List ℕ) (marks : List Bool) → length received ≡ n → length marks ≡ n
    → near_of n r received marks ≡ Some word → IsNear n r received marks word
unfolding near_of
near_of-is_near n r received word marks received_size marks_size found =
    near-from_test n r received word marks received_size marks_size (find-some (is_near n r received marks) (all_words n) word found)

-- where nothing is found, none is near
pub near_of-none : (n r : ℕ) (received : List ℕ) (marks : List Bool) → near_of n r received marks ≡ None → HasNoneNear n r received marks
unfolding near_of
near_of-none n r received marks nothing word near =
    find-none (is_near n r received marks) (all_words n) word (test-from_near n r received word marks near) nothing
    (member-all_words n word near.codeword.size near.codeword.bytes)

-- where a codeword is near, the search can't have found another word, or none
found_some : (n r : ℕ) (received word : List ℕ) (marks : List Bool) (found : Option (List ℕ)) → n ≤ 255 → IsNear n r received marks word
    → near_of n r received marks ≡ found → found ≡ Some word
found_some n r received word marks None short near is = absurd (near_of-none n r received marks is word near)
found_some n r received word marks (Some other) short near is =
    ap Some (near_once n r received marks other word short (near_of-is_near n r received other marks near.received_size near.marks_size is) near)

-- the near codeword is found
pub near_of-some : (n r : ℕ) (received word : List ℕ) (marks : List Bool) → n ≤ 255 → IsNear n r received marks word → near_of n r received marks ≡ Some word
near_of-some n r received word marks short near = found_some n r received word marks (near_of n r received marks) short near refl

-- where no codeword is near, the search can't have found a word
found_none : (n r : ℕ) (received : List ℕ) (marks : List Bool) (found : Option (List ℕ)) → length received ≡ n → length marks ≡ n
    → HasNoneNear n r received marks → near_of n r received marks ≡ found → found ≡ None
found_none n r received marks None received_size marks_size nothing is = refl
found_none n r received marks (Some word) received_size marks_size nothing is =
    absurd (nothing word (near_of-is_near n r received word marks received_size marks_size is))

-- where no codeword is near, nothing is found
pub none-near_of : (n r : ℕ) (received : List ℕ) (marks : List Bool) → length received ≡ n → length marks ≡ n
    → HasNoneNear n r received marks → near_of n r received marks ≡ None
none-near_of n r received marks received_size marks_size nothing =
    found_none n r received marks (near_of n r received marks) received_size marks_size nothing refl

-- words that agree at all unmarked places have the same near codeword
pub near_of-alike : (n r : ℕ) (received other : List ℕ) (marks : List Bool) → length received ≡ length other → AgreeUnmarked marks received other
    → near_of n r received marks ≡ near_of n r other marks
unfolding near_of is_near
near_of-alike n r received other marks size agree =
    let same : is_near n r received marks ≡ is_near n r other marks = λ i word.
    ap (λ c. (length word == n) && list_all (λ byte. nat_lt byte 256) word && vanishes_at_all r word && nat_le c r) (cost-alike word received other marks size agree) i in
    ap (λ test. find test (all_words n)) same

-- a codeword passes the test of its values
pub codeword-vanishes : (n r : ℕ) (word : List ℕ) → IsCodeword n r word → vanishes_at_all r word ≡ true
unfolding vanishes_at_all
codeword-vanishes n r word codeword =
    tests_all (λ k. nat_eq (value word (power alpha k)) 0) r (λ k below. eq-eqb (value word (power alpha k)) 0 (codeword.vanishes k below))

-- bytes that vanish at alpha^0 to alpha^(r-1) are a codeword
pub vanishing-codeword : (n r : ℕ) (word : List ℕ) → length word ≡ n → All IsByte word → vanishes_at_all r word ≡ true → IsCodeword n r word
unfolding vanishes_at_all
vanishing-codeword n r word size bytes passes = record {
  size = size;
  bytes = bytes;
  vanishes = λ k below. eqb-true (value word (power alpha k)) 0 (tested_at (λ j. nat_eq (value word (power alpha j)) 0) r k below passes);
}
