-- The check bytes of an ID: the one pair of bytes with which it is a codeword.
use Rattle.std.proofs.Common.{◌≡◌, ℕ, zero, suc, ◌/◌, ◌%◌, ◌<◌, Bool, true, false, cond, ◌||◌, Option, Some, List, [], ◌∷◌, ◌++◌, length, map, find, get_or, take, drop, All, refl, sym, ◌∙◌, ap, subst, zero-add, arith}
use Rattle.std.specs.Prelude.{◌==◌, ◌↔◌, IsTrue}
use Rattle.std.specs.List.{flat_map, range_with_len, list_any}
use Rattle.std.specs.Option.{unwrap_or}
use Rattle.std.proofs.lemmas.Bool.{and_parts, and_from, eqb-true, false≢true}
use Rattle.std.proofs.Common.{eq-eqb}
use Rattle.std.proofs.lemmas.List.{drop_more, drop_all, drop_at, take-append-drop, append_cancel_left, length-append}
use Rattle.std.proofs.lemmas.List.Elements.{All-append, All-cons, All-nil, All-tail, All-map, All-drop}
use Rattle.std.proofs.lemmas.List.Folds.{list_any-append, list_any_at}
use Rattle.std.proofs.lemmas.List.FromFn.{length-range_with_len, get_or-range_with_len, length-map-range_with_len, get_or-map-range_with_len}
use Rattle.coding.specs.Field.{alpha, power}
use Rattle.coding.specs.Words.{IsByte, IsCodeword, IsEncoded, value}
use Rattle.gf_field.proofs.FieldLaws.{power-zero, power-one}
use Rattle.rs_code.proofs.Codewords.{encodable, encoded_once}
use Rattle.dvd_frame.specs.Id.{word_bytes, has_check, all_pairs, ied_of}

-- where the first element passes it is the only one, and else the search goes on among the others
first_found : {X : Type 0} (test : X → Bool) (x only : X) (xs : List X) (passes : Bool) → test x ≡ passes → (passes || list_any test xs) ≡ true
    → (test x ≡ true → x ≡ only) → (list_any test xs ≡ true → find test xs ≡ Some only) → cond passes (Some x) (find test xs) ≡ Some only
first_found test x only xs true is some once rest = ap Some (once is)
first_found test x only xs false is some once rest = rest some

-- a search finds the only element that passes
find_only : {X : Type 0} (test : X → Bool) (only : X) (xs : List X) → list_any test xs ≡ true → All (λ x. test x ≡ true → x ≡ only) xs
    → find test xs ≡ Some only
find_only test only [] some once = absurd (false≢true some)
find_only test only (x ∷ xs) some once =
    first_found test x only xs (test x) refl some (once 0 x (omega arith)) (λ more. find_only test only xs more (All-tail (λ y. test y ≡ true → y ≡ only) x xs once))

-- what holds of each element of each part holds of each element of all
All-flat_map : {X Y : Type 0} (P : Y → Type 0) (f : X → List Y) (xs : List X) → All (λ x. All P (f x)) xs → All P (flat_map f xs)
All-flat_map P f [] each = All-nil P
All-flat_map P f (x ∷ xs) each =
    All-append P (f x) (flat_map f xs) (each 0 x (omega arith)) (All-flat_map P f xs (All-tail (λ y. All P (f y)) x xs each))

-- some element of all parts passes where some part has one that does
list_any-flat_map : {X Y : Type 0} (test : Y → Bool) (f : X → List Y) (xs : List X) → list_any test (flat_map f xs) ≡ list_any (λ x. list_any test (f x)) xs
list_any-flat_map test f [] = refl
list_any-flat_map test f (x ∷ xs) =
    list_any-append test (f x) (flat_map f xs) ∙ ap (λ (rest : Bool). list_any test (f x) || rest) (list_any-flat_map test f xs)

-- what holds of each number below n holds of each in their list
All-range : (P : ℕ → Type 0) (n : ℕ) → ((k : ℕ) → k < n → P k) → All P (range_with_len 0 n)
All-range P n each = λ k d within.
    let below : k < n = subst (λ m. k < m) (length-range_with_len 0 n) within in
    subst P (sym (get_or-range_with_len 0 n k d below ∙ zero-add k)) (each k below)

-- a number below n that passes is one in their list
list_any-range : (test : ℕ → Bool) (n k : ℕ) → k < n → test k ≡ true → list_any test (range_with_len 0 n) ≡ true
list_any-range test n k below passes =
    list_any_at test (range_with_len 0 n) k 0 (rw length-range_with_len below)
    (ap test (get_or-range_with_len 0 n k 0 below ∙ zero-add k) ∙ passes)

-- the pairs of all numbers below n
pairs_below : ℕ → List (List ℕ)
pairs_below n = flat_map (λ first. map (λ second. first ∷ second ∷ []) (range_with_len 0 n)) (range_with_len 0 n)

-- what holds of each two numbers below n holds of each pair of them
All-pairs_below : (P : List ℕ → Type 0) (n : ℕ) → ((first second : ℕ) → first < n → second < n → P (first ∷ second ∷ [])) → All P (pairs_below n)
unfolding pairs_below
All-pairs_below P n each =
    All-flat_map P (λ first. map (λ second. first ∷ second ∷ []) (range_with_len 0 n)) (range_with_len 0 n)
    (All-range (λ first. All P (map (λ second. first ∷ second ∷ []) (range_with_len 0 n))) n
    (λ first below. All-map P (λ second. first ∷ second ∷ []) (range_with_len 0 n)
    (All-range (λ second. P (first ∷ second ∷ [])) n (λ second. each first second below))))

-- two numbers below n that pass are one of the pairs
list_any-pairs_below : (test : List ℕ → Bool) (n first second : ℕ) → first < n → second < n → test (first ∷ second ∷ []) ≡ true
    → list_any test (pairs_below n) ≡ true
unfolding pairs_below
list_any-pairs_below test n first second first_below second_below passes =
    list_any-flat_map test (λ a. map (λ b. a ∷ b ∷ []) (range_with_len 0 n)) (range_with_len 0 n)
    ∙ list_any-range (λ a. list_any test (map (λ b. a ∷ b ∷ []) (range_with_len 0 n))) n first first_below
    (list_any_at test (map (λ b. first ∷ b ∷ []) (range_with_len 0 n)) second [] (rw length-map-range_with_len second_below)
    (ap test (get_or-map-range_with_len (λ b. first ∷ b ∷ []) 0 n second second [] second_below (zero-add second)) ∙ passes))

-- the pairs that are searched are those of all bytes
all_pairs_below : all_pairs ≡ pairs_below 256
unfolding all_pairs pairs_below
all_pairs_below = refl

-- a word that vanishes at 1 and at alpha
vanishing : (six : List ℕ) → value six 1 ≡ 0 → value six alpha ≡ 0 → (k : ℕ) → k < 2 → value six (power alpha k) ≡ 0
vanishing six at_one at_alpha zero below = ap (value six) (power-zero alpha) ∙ at_one
vanishing six at_one at_alpha (suc zero) below = ap (value six) (power-one alpha (omega arith)) ∙ at_alpha
vanishing six at_one at_alpha (suc (suc k)) below = absurd (omega arith)

-- six bytes that pass the test are a codeword
codeword_checked : (six : List ℕ) → length six ≡ 6 → All IsByte six → has_check six ≡ true → IsCodeword 6 2 six
codeword_checked six size bytes passes =
    let parts = and_parts (value six 1 == 0) (value six alpha == 0) passes in
    record {
      size = size;
      bytes = bytes;
      vanishes = vanishing six (eqb-true (value six 1) 0 parts.0) (eqb-true (value six alpha) 0 parts.1);
    }

-- a codeword of six bytes passes the test
check_codeword : (six : List ℕ) → IsCodeword 6 2 six → has_check six ≡ true
check_codeword six codeword =
    let at_one : value six 1 ≡ 0 = ap (value six) (sym (power-zero alpha)) ∙ codeword.vanishes 0 (omega arith) in
    let at_alpha : value six alpha ≡ 0 = ap (value six) (sym (power-one alpha (omega arith))) ∙ codeword.vanishes 1 (omega arith) in
    and_from (value six 1 == 0) (value six alpha == 0) (eq-eqb (value six 1) 0 at_one) (eq-eqb (value six alpha) 0 at_alpha)

-- the four bytes of a word are bytes
All-word_bytes : (word : ℕ) → All IsByte (word_bytes word)
All-word_bytes word =
    let two : List ℕ = word / 256 % 256 ∷ word % 256 ∷ [] in
    let last : All IsByte two =
    All-cons IsByte (word / 256 % 256) (word % 256 ∷ []) (omega arith) (All-cons IsByte (word % 256) [] (omega arith) (All-nil IsByte)) in
    All-cons IsByte (word / 16777216 % 256) (word / 65536 % 256 ∷ two) (omega arith) (All-cons IsByte (word / 65536 % 256) two (omega arith) last)

-- a pair of bytes with which the ID is a codeword is the one found
pub ied_found : (word first second : ℕ) → first < 256 → second < 256 → IsCodeword 6 2 (word_bytes word ++ first ∷ second ∷ [])
    → first ∷ second ∷ [] ≡ ied_of word
unfolding ied_of
ied_found word first second byte_first byte_second codeword =
    let id : List ℕ = word_bytes word in
    let pair : List ℕ = first ∷ second ∷ [] in
    let test : List ℕ → Bool = λ other. has_check (id ++ other) in
    let some : list_any test all_pairs ≡ true =
    ap (list_any test) all_pairs_below ∙ list_any-pairs_below test 256 first second byte_first byte_second (check_codeword (id ++ pair) codeword) in
    let once : All (λ other. test other ≡ true → other ≡ pair) all_pairs =
    subst (All (λ other. test other ≡ true → other ≡ pair)) (sym all_pairs_below) (All-pairs_below (λ other. test other ≡ true → other ≡ pair) 256 only) in
    ap (λ (found : Option (List ℕ)). unwrap_or found []) (sym (find_only test pair all_pairs some once))
  where
    only : (a b : ℕ) → a < 256 → b < 256 → has_check (word_bytes word ++ a ∷ b ∷ []) ≡ true → a ∷ b ∷ [] ≡ first ∷ second ∷ []
    only a b byte_a byte_b passes =
        let id : List ℕ = word_bytes word in
        let bytes : All IsByte (a ∷ b ∷ []) = All-cons IsByte a (b ∷ []) byte_a (All-cons IsByte b [] byte_b (All-nil IsByte)) in
        let other : IsCodeword 6 2 (id ++ a ∷ b ∷ []) =
        codeword_checked (id ++ a ∷ b ∷ []) refl (All-append IsByte id (a ∷ b ∷ []) (All-word_bytes word) bytes) passes in
        let encoded_other : IsEncoded 6 2 id (id ++ a ∷ b ∷ []) = record { codeword = other; begins = refl } in
        let encoded_first : IsEncoded 6 2 id (id ++ first ∷ second ∷ []) = record { codeword = codeword; begins = refl } in
        append_cancel_left id (a ∷ b ∷ []) (first ∷ second ∷ [])
        (encoded_once 6 2 id (id ++ a ∷ b ∷ []) (id ++ first ∷ second ∷ []) (omega arith) (omega arith) encoded_other encoded_first)

-- the last two of six bytes come after the first four
pub last_two : (six prefix : List ℕ) → length six ≡ 6 → take 4 six ≡ prefix → six ≡ prefix ++ get_or six 4 0 ∷ get_or six 5 0 ∷ []
last_two six prefix size begins =
    sym (take-append-drop 4 six)
    ∙ ap (λ (l : List ℕ). l ++ drop 4 six) begins
    ∙ ap (λ (l : List ℕ). prefix ++ l) (drop_more six 4 0 (omega arith) ∙ ap (λ (l : List ℕ). get_or six 4 0 ∷ l)
    (drop_more six 5 0 (omega arith) ∙ ap (λ (l : List ℕ). get_or six 5 0 ∷ l) (drop_all 6 six (omega arith))))

-- an answer that is true exactly for codewords is the test
pub checked : (answer : Bool) (six : List ℕ) → length six ≡ 6 → All IsByte six → IsTrue answer ↔ IsCodeword 6 2 six → answer ≡ has_check six
checked true six size bytes decides = sym (check_codeword six (decides.0 refl))
checked false six size bytes decides = refused (has_check six) refl where
  refused : (test : Bool) → has_check six ≡ test → false ≡ test
  refused true passes = decides.1 (codeword_checked six size bytes passes)
  refused false fails = refl

-- the ID as encoding leaves it
encoded : (word : ℕ) → (six : List ℕ) × IsEncoded 6 2 (word_bytes word) six
encoded word = encodable 6 2 (word_bytes word) (omega arith) (omega arith) refl (All-word_bytes word)

-- the ID and the pair that is found are what encoding makes of the ID
ied_encoded : (word : ℕ) (six : List ℕ) → IsEncoded 6 2 (word_bytes word) six → six ≡ word_bytes word ++ ied_of word
ied_encoded word six made =
    let codeword = made.codeword in
    let parts = last_two six (word_bytes word) codeword.size made.begins in
    parts ∙ ap (λ (l : List ℕ). word_bytes word ++ l)
    (ied_found word (get_or six 4 0) (get_or six 5 0) (codeword.bytes 4 0 (omega (arith, codeword.size))) (codeword.bytes 5 0 (omega (arith, codeword.size)))
    (subst (IsCodeword 6 2) parts codeword))

-- the pair that is found has two bytes
pub length-ied_of : (word : ℕ) → length (ied_of word) ≡ 2
length-ied_of word =
    let made = encoded word in
    let four : length (word_bytes word) ≡ 4 = refl in
    omega (arith, made.1.codeword.size, ap length (ied_encoded word made.0 made.1), length-append (word_bytes word) (ied_of word), four)

-- the pair that is found is of bytes
pub bytes-ied_of : (word : ℕ) → All IsByte (ied_of word)
bytes-ied_of word =
    let made = encoded word in
    let tail : drop 4 made.0 ≡ ied_of word = ap (drop 4) (ied_encoded word made.0 made.1) ∙ drop_at (word_bytes word) (ied_of word) 4 refl in
    subst (All IsByte) tail (All-drop IsByte 4 made.0 made.1.codeword.bytes)

-- the pair that is found makes the ID a codeword
pub ied_right : (word : ℕ) → has_check (word_bytes word ++ ied_of word) ≡ true
ied_right word =
    let made = encoded word in
    ap has_check (sym (ied_encoded word made.0 made.1)) ∙ check_codeword made.0 made.1.codeword
