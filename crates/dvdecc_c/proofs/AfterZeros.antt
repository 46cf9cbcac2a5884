-- A word as the end of a longer one that begins with zeros: it is a codeword where the longer one is (codeword-longer,
-- codeword-shorter), near where that is near (near-longer, near-shorter), and found where that is found (found,
-- found-none).
use Rattle.std.proofs.Common.{◌≡◌, ℕ, zero, suc, ◌+◌, ◌-◌, ◌<◌, ◌≤◌, Bool, false, not, ◌==◌, List, ◌∷◌, ◌++◌, length, get_or, take, drop, replicate, refl, sym, ap, subst, ◌∙◌, zero-add, arith}
use Rattle.std.proofs.lemmas.List.{length-append, length-map, length-replicate, get_or-append_right, take_at, drop_at, drop-take, take-take, take-append-drop}
use Rattle.std.proofs.lemmas.List.Elements.{All-append, All-replicate}
use Rattle.std.specs.Prelude.{Some, None, unwrap_or}
use Rattle.std.specs.declared.option.Option.{Option}
use Rattle.coding.specs.Field.{alpha, power}
use Rattle.coding.specs.Filling.{marked}
use Rattle.coding.specs.Nearest.{near_of}
use Rattle.coding.specs.Words.{IsByte, IsCodeword, IsEncoded, IsNear, cost, value}
use Rattle.gf_field.proofs.FieldLaws.{zero-product, zero-plus}
use Rattle.rs_code.proofs.Values.{value-append, value-zeros}
use Rattle.rs_decode.specs.Errors.{error_count}
use Rattle.rs_decode.proofs.NearSearch.{near_of-is_near, near_of-some, none-near_of}
use Rattle.dvdecc_c.specs.Words.{lost_marks, word_status}

-- so many zeros and then the word
abbrev pub zeros_and : ℕ → List ℕ → List ℕ
zeros_and k word = replicate k 0 ++ word

-- so many places that aren't lost and then the marks
abbrev pub kept_and : ℕ → List Bool → List Bool
kept_and k marks = replicate k false ++ marks

length-zeros_and : (k : ℕ) (word : List ℕ) → length (zeros_and k word) ≡ k + length word
length-zeros_and k word = length-append (replicate {A = ℕ} k 0) word ∙ ap (λ n. n + length word) (length-replicate {A = ℕ} k 0)

length-kept_and : (k : ℕ) (marks : List Bool) → length (kept_and k marks) ≡ k + length marks
length-kept_and k marks = length-append (replicate {A = Bool} k false) marks ∙ ap (λ n. n + length marks) (length-replicate {A = Bool} k false)

value-zeros_and : (k : ℕ) (word : List ℕ) (x : ℕ) → value (zeros_and k word) x ≡ value word x
value-zeros_and k word x = value-append (replicate {A = ℕ} k 0) word x ∙ rw (value-zeros k x, zero-product, zero-plus) refl

-- zeros that aren't lost cost nothing
cost-zeros_and : (k : ℕ) (word received : List ℕ) (marks : List Bool) → cost (zeros_and k word) (zeros_and k received) (kept_and k marks) ≡ cost word received marks
unfolding cost
cost-zeros_and zero word received marks = refl
cost-zeros_and (suc k) word received marks = zero-add _ ∙ cost-zeros_and k word received marks

pub errors-zeros_and : (k : ℕ) (received word : List ℕ) (marks : List Bool)
    → error_count (zeros_and k received) (zeros_and k word) (kept_and k marks) ≡ error_count received word marks
unfolding error_count
errors-zeros_and zero received word marks = refl
errors-zeros_and (suc k) received word marks = zero-add _ ∙ errors-zeros_and k received word marks

pub marked-kept_and : (k : ℕ) (marks : List Bool) → marked (kept_and k marks) ≡ marked marks
unfolding marked
marked-kept_and zero marks = refl
marked-kept_and (suc k) marks = zero-add _ ∙ marked-kept_and k marks

pub marks-zeros_and : (k : ℕ) (lost : List ℕ) → lost_marks (zeros_and k lost) ≡ kept_and k (lost_marks lost)
unfolding lost_marks
marks-zeros_and zero lost = refl
marks-zeros_and (suc k) lost = ap (λ marks. false ∷ marks) (marks-zeros_and k lost)

codeword-longer : (k n r : ℕ) (word : List ℕ) → IsCodeword n r word → IsCodeword (k + n) r (zeros_and k word)
codeword-longer k n r word codeword = record {
  size = length-zeros_and k word ∙ ap (λ m. k + m) codeword.size;
  bytes = All-append IsByte (replicate k 0) word (All-replicate IsByte k 0 (omega arith)) codeword.bytes;
  vanishes = λ j below. value-zeros_and k word (power alpha j) ∙ codeword.vanishes j below;
}

pub codeword-shorter : (t k n r : ℕ) (word : List ℕ) → t ≡ k + n → IsCodeword t r (zeros_and k word) → IsCodeword n r word
codeword-shorter t k n r word sum codeword =
    let size : length word ≡ n = omega (arith, sum, codeword.size, length-zeros_and k word) in
    record {
      size = size;
      bytes = λ i d inside.
          subst IsByte
          (get_or-append_right (replicate {A = ℕ} k 0) word k (k + i) d (length-replicate {A = ℕ} k 0) (omega arith) ∙ ap (λ p. get_or word p d) (omega arith))
          (codeword.bytes (k + i) d (omega (arith, length-zeros_and k word)));
      vanishes = λ j below. sym (value-zeros_and k word (power alpha j)) ∙ codeword.vanishes j below;
    }

near-longer : (k n r : ℕ) (received word : List ℕ) (marks : List Bool) → IsNear n r received marks word
    → IsNear (k + n) r (zeros_and k received) (kept_and k marks) (zeros_and k word)
near-longer k n r received word marks near = record {
  codeword = codeword-longer k n r word near.codeword;
  received_size = length-zeros_and k received ∙ ap (λ m. k + m) near.received_size;
  marks_size = length-kept_and k marks ∙ ap (λ m. k + m) near.marks_size;
  within = subst (λ c. c ≤ r) (sym (cost-zeros_and k word received marks)) near.within;
}

near-shorter : (k n r : ℕ) (received word : List ℕ) (marks : List Bool) → length received ≡ n → length marks ≡ n
    → IsNear (k + n) r (zeros_and k received) (kept_and k marks) (zeros_and k word) → IsNear n r received marks word
near-shorter k n r received word marks received_size marks_size near = record {
  codeword = codeword-shorter (k + n) k n r word refl near.codeword;
  received_size = received_size;
  marks_size = marks_size;
  within = subst (λ c. c ≤ r) (cost-zeros_and k word received marks) near.within;
}

-- a list that begins with zeros
pub begins-zeros : (k : ℕ) (whole : List ℕ) → take k whole ≡ replicate k 0 → whole ≡ zeros_and k (drop k whole)
begins-zeros k whole prefix = sym (take-append-drop k whole) ∙ ap (λ zeros. zeros ++ drop k whole) prefix

pub length-lost_marks : (lost : List ℕ) → length (lost_marks lost) ≡ length lost
unfolding lost_marks
length-lost_marks lost = length-map lost (λ (byte : ℕ). not (byte == 0))

-- What is found of the longer word, if it begins with zeros, is found of the word.
pub found : (k n r : ℕ) (received full : List ℕ) (marks : List Bool) → k + n ≤ 255 → length received ≡ n → length marks ≡ n
    → near_of (k + n) r (zeros_and k received) (kept_and k marks) ≡ Some full → take k full ≡ replicate k 0
    → near_of n r received marks ≡ Some (drop k full)
found k n r received full marks short received_size marks_size is prefix =
    let near : IsNear (k + n) r (zeros_and k received) (kept_and k marks) full =
    near_of-is_near (k + n) r (zeros_and k received) full (kept_and k marks)
    (length-zeros_and k received ∙ ap (λ m. k + m) received_size) (length-kept_and k marks ∙ ap (λ m. k + m) marks_size) is in
    near_of-some n r received (drop k full) marks (omega arith)
    (near-shorter k n r received (drop k full) marks received_size marks_size
    (subst (IsNear (k + n) r (zeros_and k received) (kept_and k marks)) (begins-zeros k full prefix) near))

-- Where nothing is found of the longer word that begins with zeros, nothing is found of the word.
pub found-none : (k n r : ℕ) (received : List ℕ) (marks : List Bool) → k + n ≤ 255 → length received ≡ n → length marks ≡ n
    → ((word : List ℕ) → near_of (k + n) r (zeros_and k received) (kept_and k marks) ≡ Some (zeros_and k word) → ⊥)
    → near_of n r received marks ≡ None
found-none k n r received marks short received_size marks_size differs =
    none-near_of n r received marks received_size marks_size
    (λ word near. differs word
    (near_of-some (k + n) r (zeros_and k received) (zeros_and k word) (kept_and k marks) short (near-longer k n r received word marks near)))

-- what a status says of the codeword
pub status-some : (near : Option (List ℕ)) (received : List ℕ) → word_status near ≡ 0 → near ≡ Some (unwrap_or near received)
status-some None received is = absurd (omega (arith, is))
status-some (Some word) received is = refl

pub status-word : (near : Option (List ℕ)) (word : List ℕ) → near ≡ Some word → word_status near ≡ 0
status-word near word is = ap word_status is

-- the first of more of the first
take-of_take : (k m : ℕ) (word : List ℕ) → take k (take (k + m) word) ≡ take k word
take-of_take k m word = take-take k (k + m) word (omega arith)

-- the end of an encoded word that begins with zeros is encoded
pub encoded-end : (k n r : ℕ) (message full : List ℕ) → r < n → length message ≡ n
    → IsEncoded (k + n) r (take (k + n - r) (zeros_and k message)) full → IsEncoded n r (take (n - r) message) (drop k full)
encoded-end k n r message full small size encoded =
    let rest : k + n - r ≡ k + (n - r) = omega arith in
    let begins : take (k + (n - r)) full ≡ take (k + (n - r)) (zeros_and k message) =
    subst (λ m. take m full ≡ take m (zeros_and k message)) rest encoded.begins in
    let prefix : take k full ≡ replicate k 0 =
    sym (take-of_take k (n - r) full) ∙ ap (take k) begins ∙ take-of_take k (n - r) (zeros_and k message)
    ∙ take_at (replicate {A = ℕ} k 0) message k (length-replicate {A = ℕ} k 0) in
    record {
      codeword = codeword-shorter (k + n) k n r (drop k full) refl (subst (IsCodeword (k + n) r) (begins-zeros k full prefix) encoded.codeword);
      begins = sym (drop-take k (n - r) full) ∙ ap (drop k) begins ∙ drop-take k (n - r) (zeros_and k message)
          ∙ ap (take (n - r)) (drop_at (replicate {A = ℕ} k 0) message k (length-replicate {A = ℕ} k 0));
    }
