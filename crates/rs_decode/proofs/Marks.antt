-- The marked places of a word, as loops over the marks pass them.
use Rattle.std.proofs.Common.{◌≡◌, ◌≢◌, ℕ, zero, suc, ◌+◌, ◌-◌, ◌<◌, ◌≤◌, Bool, true, false, inl, inr, List, [], ◌∷◌, ◌++◌, length, take, replicate, get_or, set, All, refl, sym, ap, ◌∙◌, arith, add-one, zero-add}
use Rattle.std.proofs.lemmas.Bool.{cases_eq}
use Rattle.std.proofs.lemmas.List.{get_or-set_other}
use Rattle.std.proofs.lemmas.List.Elements.{All-head, All-tail, All-cons, All-nil, All-set}
use Rattle.std.proofs.lemmas.Grind.{get_or-set_at}
use Rattle.std.proofs.Math.Seq.{take-suc}
use mir.Val.{bool_byte}
use Rattle.coding.specs.Field.{alpha, plus, power}
use Rattle.coding.specs.Words.{IsByte}
use Rattle.gf_field.proofs.FieldLaws.{alpha-nonzero, plus-assoc, plus-byte, plus-self, plus-zero, power-alpha-differ, power-nonzero}
use Rattle.rs_code.specs.Inner.PowerSums.{points_of}
use Rattle.rs_code.proofs.PowerSums.{length-points_of}
use Rattle.coding.specs.Filling.{marked}
use Rattle.rs_decode.specs.Patches.{patched, ArePlaces, place_of_mark}
use Rattle.rs_decode.specs.Inner.Places.{picked}

-- ---- the numbers at marked places

-- what holds of all numbers holds of those at marked places
pub All-picked : (P : ℕ → Type 0) (marks : List Bool) (xs : List ℕ) → All P xs → All P (picked marks xs)
unfolding picked
All-picked P [] xs all = All-nil P
All-picked P (mark ∷ marks) [] all = All-nil P
All-picked P (true ∷ marks) (x ∷ xs) all = All-cons P x (picked marks xs) (All-head P x xs all) (All-picked P marks xs (All-tail P x xs all))
All-picked P (false ∷ marks) (x ∷ xs) all = All-picked P marks xs (All-tail P x xs all)

-- ---- how many they are

-- of no places none is marked
pub marked-none : marked [] ≡ 0
unfolding marked
marked-none = refl

-- one more place is counted where it is marked
marked-suc : (marks : List Bool) (i : ℕ) → i < length marks → marked (take (suc i) marks) ≡ marked (take i marks) + bool_byte (get_or marks i false)
unfolding marked
marked-suc [] i below = absurd (omega arith)
marked-suc (true ∷ marks) zero below = refl
marked-suc (false ∷ marks) zero below = refl
marked-suc (mark ∷ marks) (suc i) below = let rest = marked-suc marks i (omega arith) in omega (arith, rest)

-- the same, as a loop counts
pub marked-next : (marks : List Bool) (i : ℕ) → i < length marks → marked (take (i + 1) marks) ≡ marked (take i marks) + bool_byte (get_or marks i false)
marked-next marks i below = ap (λ n. marked (take n marks)) (add-one i) ∙ marked-suc marks i below

-- in front of a place there are no more marks than places
pub marked-few : (marks : List Bool) (i : ℕ) → marked (take i marks) ≤ i
unfolding marked
marked-few marks zero = omega arith
marked-few [] (suc i) = omega arith
marked-few (true ∷ marks) (suc i) = let rest = marked-few marks i in omega arith
marked-few (false ∷ marks) (suc i) = let rest = marked-few marks i in omega arith

-- as many numbers are picked as places are marked
pub length-picked : (marks : List Bool) (xs : List ℕ) → length xs ≡ length marks → length (picked marks xs) ≡ marked marks
unfolding picked marked
length-picked [] xs size = refl
length-picked (mark ∷ marks) [] size = absurd (omega arith)
length-picked (true ∷ marks) (x ∷ xs) size = ap suc (length-picked marks xs (omega arith)) ∙ omega arith
length-picked (false ∷ marks) (x ∷ xs) size = length-picked marks xs (omega arith) ∙ omega arith

-- where no place is marked nothing is picked
pub picked-none : (marks : List Bool) (xs : List ℕ) → length xs ≡ length marks → marked marks ≡ 0 → picked marks xs ≡ []
picked-none marks xs size none = no_item (picked marks xs) (length-picked marks xs size ∙ none)
  where
    no_item : (ys : List ℕ) → length ys ≡ 0 → ys ≡ []
    no_item [] is = refl
    no_item (y ∷ ys) is = absurd (omega (arith, is))

-- where there are only places without a mark nothing is picked
pub picked-replicate : (n : ℕ) (xs : List ℕ) → picked (replicate n false) xs ≡ []
unfolding picked
picked-replicate zero xs = refl
picked-replicate (suc n) [] = refl
picked-replicate (suc n) (x ∷ xs) = picked-replicate n xs

-- the power of alpha at a place
pub get_or-points_of : (n i : ℕ) → i < n → get_or (points_of n) i 0 ≡ power alpha (n - 1 - i)
unfolding points_of
get_or-points_of zero i below = absurd (omega arith)
get_or-points_of (suc n) zero below = let same : n ≡ suc n - 1 - 0 = omega arith in ap (power alpha) same
get_or-points_of (suc n) (suc i) below =
    let same : n - 1 - i ≡ suc n - 1 - suc i = omega arith in
    get_or-points_of n i (omega arith) ∙ ap (power alpha) same

-- ---- the places of the marks

-- each mark's place is a place of the word
pub place_of_mark-inside : (marks : List Bool) (i : ℕ) → i < marked marks → place_of_mark marks i < length marks
unfolding place_of_mark marked
place_of_mark-inside [] i below = absurd (omega arith)
place_of_mark-inside (true ∷ marks) zero below = omega arith
place_of_mark-inside (true ∷ marks) (suc i) below = let rest = place_of_mark-inside marks i (omega arith) in omega arith
place_of_mark-inside (false ∷ marks) i below = let rest = place_of_mark-inside marks i (omega arith) in omega arith

-- the number picked by the mark i is the one at its place
picked-at : (marks : List Bool) (xs : List ℕ) (i : ℕ) → length xs ≡ length marks → i < marked marks → get_or (picked marks xs) i 0 ≡ get_or xs (place_of_mark marks i) 0
unfolding picked place_of_mark marked
picked-at [] xs i size below = absurd (omega arith)
picked-at (mark ∷ marks) [] i size below = absurd (omega arith)
picked-at (true ∷ marks) (x ∷ xs) zero size below = refl
picked-at (true ∷ marks) (x ∷ xs) (suc i) size below = picked-at marks xs i (omega arith) (omega arith)
picked-at (false ∷ marks) (x ∷ xs) i size below = picked-at marks xs i (omega arith) (omega arith)

-- the mark at a marked place comes after those in front of it
place_of_mark-at : (marks : List Bool) (place : ℕ) → place < length marks → get_or marks place false ≡ true → place_of_mark marks (marked (take place marks)) ≡ place
unfolding place_of_mark marked
place_of_mark-at [] place below is = absurd (omega arith)
place_of_mark-at (true ∷ marks) zero below is = refl
place_of_mark-at (false ∷ marks) zero below is = absurd (cc)
place_of_mark-at (true ∷ marks) (suc place) below is =
    let past : 1 + marked (take place marks) ≡ suc (marked (take place marks)) = omega arith in
    ap (place_of_mark (true ∷ marks)) past ∙ ap suc (place_of_mark-at marks place (omega arith) is)
place_of_mark-at (false ∷ marks) (suc place) below is =
    ap (λ i. suc (place_of_mark marks i)) (zero-add (marked (take place marks))) ∙ ap suc (place_of_mark-at marks place (omega arith) is)

-- a place that is written after those of the marks in front of it stays where it is marked itself
pub ArePlaces-next : (marks : List Bool) (place count : ℕ) (places : List ℕ) → place < length marks → count < length places → count ≡ marked (take place marks)
    → ArePlaces marks count places
    → (mark : Bool) → get_or marks place false ≡ mark → ArePlaces marks (count + bool_byte mark) (set places count place)
ArePlaces-next marks place count places below room counted before true is = λ i inside. elim (cases_eq i count) [
  | inl same ↦ get_or-set_at places count i place 0 same room ∙ sym (place_of_mark-at marks place below is) ∙ ap (place_of_mark marks) (sym counted ∙ sym same)
  | inr differ ↦ get_or-set_other places count i place 0 differ ∙ before i (omega (arith, differ))
]
ArePlaces-next marks place count places below room counted before false is = λ i inside. get_or-set_other places count i place 0 (omega arith) ∙ before i (omega arith)

-- the power of alpha at its place, as a loop over the points has it
point-at : (marks : List Bool) (points : List ℕ) (i : ℕ) → points ≡ picked marks (points_of (length marks)) → i < length points
    → (place_of_mark marks i < length marks) × (get_or points i 0 ≡ power alpha (length marks - 1 - place_of_mark marks i))
point-at marks points i are inside =
    let size = length-points_of (length marks) in
    let below : i < marked marks = omega (arith, ap length are, length-picked marks (points_of (length marks)) size) in
    let within = place_of_mark-inside marks i below in
    (within, ap (λ xs. get_or xs i 0) are ∙ picked-at marks (points_of (length marks)) i size below ∙ get_or-points_of (length marks) (place_of_mark marks i) within)

-- with one place more there is one point more, its power of alpha
pub point-next : (marks : List Bool) (places : List ℕ) (i count place : ℕ) → i < count → count ≡ marked marks → ArePlaces marks count places → place ≡ get_or places i 0
    → (place < length marks)
    × (take (i + 1) (picked marks (points_of (length marks))) ≡ take i (picked marks (points_of (length marks))) ++ power alpha (length marks - 1 - place) ∷ [])
point-next marks places i count place inside all are same =
    let points = picked marks (points_of (length marks)) in
    let size : length points ≡ marked marks = length-picked marks (points_of (length marks)) (length-points_of (length marks)) in
    let at = point-at marks points i refl (omega (arith, size)) in
    let here : place ≡ place_of_mark marks i = same ∙ are i inside in (
      omega (arith, at.0, here),
      ap (λ n. take n points) (add-one i) ∙ take-suc points i 0 (omega (arith, size))
          ∙ ap (λ x. take i points ++ x ∷ []) (at.1 ∙ ap (λ p. power alpha (length marks - 1 - p)) (sym here)),
    )

-- ---- words with bytes added at marked places

-- a word stays when no bytes are added
pub patched-none : (word : List ℕ) (marks : List Bool) → patched word marks [] ≡ word
unfolding patched
patched-none [] marks = refl
patched-none (byte ∷ word) [] = refl
patched-none (byte ∷ word) (false ∷ marks) = ap (λ w. byte ∷ w) (patched-none word marks)
patched-none (byte ∷ word) (true ∷ marks) = ap (λ w. byte ∷ w) (patched-none word marks)

-- a word with a byte added at a place
abbrev added : List ℕ → ℕ → ℕ → List ℕ
added word place byte = set word place (plus (get_or word place 0) byte)

-- the same bytes added twice give the word back
pub patched-twice : (word : List ℕ) (marks : List Bool) (bytes : List ℕ) → patched (patched word marks bytes) marks bytes ≡ word
unfolding patched
patched-twice [] marks bytes = refl
patched-twice (byte ∷ word) [] bytes = refl
patched-twice (byte ∷ word) (false ∷ marks) bytes = ap (λ w. byte ∷ w) (patched-twice word marks bytes)
patched-twice (byte ∷ word) (true ∷ marks) [] = ap (λ w. byte ∷ w) (patched-twice word marks [])
patched-twice (byte ∷ word) (true ∷ marks) (first ∷ rest) =
    let back : plus (plus byte first) first ≡ byte = plus-assoc byte first first ∙ ap (plus byte) (plus-self first) ∙ plus-zero byte in
    ap (λ b. b ∷ patched (patched word marks rest) marks rest) back ∙ ap (λ w. byte ∷ w) (patched-twice word marks rest)

-- one byte more is added at the place of its mark
patched-suc : (word : List ℕ) (marks : List Bool) (bytes : List ℕ) (i : ℕ) → length word ≡ length marks → i < length bytes → i < marked marks
    → patched word marks (take (suc i) bytes) ≡ added (patched word marks (take i bytes)) (place_of_mark marks i) (get_or bytes i 0)
unfolding patched place_of_mark marked
patched-suc word [] bytes i size inside below = absurd (omega arith)
patched-suc [] (mark ∷ marks) bytes i size inside below = absurd (omega arith)
patched-suc (byte ∷ word) (false ∷ marks) bytes i size inside below = ap (λ w. byte ∷ w) (patched-suc word marks bytes i (omega arith) inside (omega arith))
patched-suc (byte ∷ word) (true ∷ marks) [] i size inside below = absurd (omega arith)
patched-suc (byte ∷ word) (true ∷ marks) (first ∷ rest) zero size inside below = refl
patched-suc (byte ∷ word) (true ∷ marks) (first ∷ rest) (suc i) size inside below = ap (λ w. plus byte first ∷ w) (patched-suc word marks rest i (omega arith) (omega arith) (omega arith))

-- the same by the places in order
pub patched-placed : (word now : List ℕ) (marks : List Bool) (places bytes : List ℕ) (i : ℕ) → length word ≡ length marks → i < length bytes → i < marked marks
    → ArePlaces marks (marked marks) places → now ≡ patched word marks (take i bytes)
    → added now (get_or places i 0) (get_or bytes i 0) ≡ patched word marks (take (i + 1) bytes)
patched-placed word now marks places bytes i size inside below are now_is =
    ap (λ p. added now p (get_or bytes i 0)) (are i below)
    ∙ ap (λ w. added w (place_of_mark marks i) (get_or bytes i 0)) now_is
    ∙ sym (patched-suc word marks bytes i size inside below) ∙ ap (λ n. patched word marks (take n bytes)) (sym (add-one i))

-- the same by the point's logarithm
pub patched-next : (word now : List ℕ) (marks : List Bool) (points bytes : List ℕ) (i e : ℕ) → length marks ≤ 255 → length marks ≡ length word
    → points ≡ picked marks (points_of (length marks)) → length bytes ≡ length points → i < length points → e < 255 → power alpha e ≡ get_or points i 0
    → now ≡ patched word marks (take i bytes) → set now (length word - 1 - e) (plus (get_or now (length word - 1 - e) 0) (get_or bytes i 0)) ≡ patched word marks (take (i + 1) bytes)
patched-next word now marks points bytes i e short size are fits inside below reaches now_is =
    let at = point-at marks points i are inside in
    let same : e ≡ length marks - 1 - place_of_mark marks i = power-alpha-differ e (length marks - 1 - place_of_mark marks i) below (omega (arith, at.0)) (reaches ∙ at.1) in
    let place : length word - 1 - e ≡ place_of_mark marks i = omega (arith, at.0) in
    let few : i < marked marks = omega (arith, ap length are, length-picked marks (points_of (length marks)) (length-points_of (length marks))) in
    ap (λ p. added now p (get_or bytes i 0)) place
    ∙ ap (λ w. added w (place_of_mark marks i) (get_or bytes i 0)) now_is
    ∙ sym (patched-suc word marks bytes i (sym size) (omega arith) few) ∙ ap (λ n. patched word marks (take n bytes)) (sym (add-one i))

-- no point of a marked place is 0, so that each has a logarithm
pub point-nonzero : (marks : List Bool) (points : List ℕ) (i : ℕ) → points ≡ picked marks (points_of (length marks)) → i < length points → get_or points i 0 ≢ 0
point-nonzero marks points i are inside is_zero =
    let at = point-at marks points i are inside in
    power-nonzero alpha (length marks - 1 - place_of_mark marks i) (omega arith) alpha-nonzero (sym at.1 ∙ is_zero)

-- the logarithm of a marked place's point is below the number of places
pub point-within : (marks : List Bool) (points : List ℕ) (i e : ℕ) → length marks ≤ 255 → points ≡ picked marks (points_of (length marks)) → i < length points
    → e < 255 → power alpha e ≡ get_or points i 0 → e < length marks
point-within marks points i e short are inside below reaches =
    let at = point-at marks points i are inside in
    omega (arith, at.0, power-alpha-differ e (length marks - 1 - place_of_mark marks i) below (omega (arith, at.0)) (reaches ∙ at.1))

-- with a byte added at a place, a word of bytes is one still
pub byte-added : (word : List ℕ) (i byte : ℕ) → i < length word → byte < 256 → All IsByte word → All IsByte (set word i (plus (get_or word i 0) byte))
byte-added word i byte inside is_byte all =
    All-set IsByte word i (plus (get_or word i 0) byte) (plus-byte (get_or word i 0) byte (all i 0 inside) is_byte) all
