-- Encoded words: a message followed by its remainder. There is one for each message, and only one.
use Rattle.std.proofs.Common.{◌≡◌, ℕ, suc, ◌+◌, ◌-◌, ◌<◌, ◌≤◌, List, [], ◌∷◌, ◌++◌, length, take, drop, All, replicate, sym, ap, subst, ◌∙◌, arith, length-append, length-drop, take-append-drop, ◌==◌, if◌then◌else◌}
use Rattle.std.proofs.lemmas.List.{take_at}
use Rattle.std.proofs.lemmas.List.Elements.{All-append}
use Rattle.std.proofs.lemmas.Bool.Decides.{nat_tests}
use Rattle.coding.specs.Field.{alpha, plus, product, power}
use Rattle.coding.specs.Words.{IsByte, IsCodeword, IsEncoded, value}
use Rattle.gf_field.proofs.FieldLaws.{plus-zero_same}
use Rattle.rs_code.specs.Polynomials.{HasRoots}
use Rattle.rs_code.specs.Inner.Polynomials.{sum_of, IsRemainder}
use Rattle.coding.specs.Distance.{weight, distance}
use Rattle.rs_code.proofs.Remainders.{remainder_of, IsRemainder-start}
use Rattle.rs_code.proofs.Generator.{generator_of, length-generator_of, HasRoots-generator_of}
use Rattle.rs_code.proofs.Distance.{IsCodeword-light, IsCodeword-close}
use Rattle.rs_code.proofs.Values.{value-append, value-sum_of, value-zeros}

-- a message and its remainder are a codeword
pub IsCodeword-from_remainder : (r : ℕ) (generator message register : List ℕ)
    → length generator ≡ r
    → HasRoots r generator
    → All IsByte message
    → IsRemainder generator message register
    → IsCodeword (length message + r) r (message ++ register)
IsCodeword-from_remainder r generator message register degree roots bytes is =
    let long : length register ≡ length generator = is.size in
    record {
      size = length-append message register ∙ omega arith;
      bytes = All-append IsByte message register bytes is.bytes;
      vanishes = λ k below. is.vanishes (power alpha k) (roots k below);
    }

-- the same where the generator is the product of its factors, and r is known to be its degree
pub IsCodeword-by_tables : (r degree : ℕ) (message register : List ℕ)
    → r ≡ degree
    → All IsByte message
    → IsRemainder (generator_of degree) message register
    → IsCodeword (length message + r) r (message ++ register)
IsCodeword-by_tables r degree message register same bytes is =
    subst (λ m. IsCodeword (length message + m) m (message ++ register)) (sym same)
    (IsCodeword-from_remainder degree (generator_of degree) message register (length-generator_of degree) (HasRoots-generator_of degree) bytes is)

-- a codeword that begins with the message is the encoded message
pub IsEncoded-from_codeword : (n r : ℕ) (message register : List ℕ)
    → length message ≡ n - r
    → r ≤ n
    → IsCodeword (length message + r) r (message ++ register)
    → IsEncoded n r message (message ++ register)
IsEncoded-from_codeword n r message register size fits codeword =
    let whole : length message + r ≡ n = omega arith in
    record {
      codeword = subst (λ m. IsCodeword m r (message ++ register)) whole codeword;
      begins = take_at message register (n - r) size;
    }

-- one place adds at most 1 to a count of places
at_most_one : (x y d n : ℕ) → d ≤ n → (if x == y then 0 else 1) + d ≤ suc n
at_most_one x y d n below = grind (arith, nat_tests)

-- the sum of a message's remainder and of the parity that follows it has the values of the whole word at the roots
pub value-remainder : (message register parity : List ℕ) (x : ℕ) → length register ≡ length parity → value (message ++ register) x ≡ 0
    → value (sum_of register parity) x ≡ value (message ++ parity) x
value-remainder message register parity x same vanishes =
    let was : product (value message x) (power x (length register)) ≡ value register x = plus-zero_same _ _ (sym (value-append message register x) ∙ vanishes) in
    value-sum_of register parity x same
    ∙ ap (λ v. plus v (value parity x)) (sym was ∙ ap (λ m. product (value message x) (power x m)) same)
    ∙ sym (value-append message parity x)

-- at most all bytes of a word aren't 0
weight-within : (word : List ℕ) → weight word ≤ length word
unfolding weight
weight-within [] = omega arith
weight-within (byte ∷ word) = at_most_one byte 0 (weight word) (length word) (weight-within word)

-- a word is a codeword exactly where its remainder is zero, since r bytes can't hide from r values
pub IsCodeword-remainder : (n r : ℕ) (word remainder : List ℕ)
    → r ≤ 255
    → length word ≡ n
    → length remainder ≡ r
    → All IsByte word
    → All IsByte remainder
    → ((k : ℕ) → k < r → value remainder (power alpha k) ≡ value word (power alpha k))
    → (remainder ≡ replicate (length remainder) 0 → IsCodeword n r word) × (IsCodeword n r word → remainder ≡ replicate (length remainder) 0)
IsCodeword-remainder n r word remainder short size long bytes remainder_bytes values = (
  (λ is_zero. record {
    size = size;
    bytes = bytes;
    vanishes = λ k below. sym (values k below) ∙ ap (λ xs. value xs (power alpha k)) is_zero ∙ value-zeros (length remainder) (power alpha k);
  }),
  (λ codeword.
      let hidden : IsCodeword r r remainder = record {
        size = long;
        bytes = remainder_bytes;
        vanishes = λ k below. values k below ∙ codeword.vanishes k below;
      } in
      IsCodeword-light r r remainder short hidden (omega (arith, weight-within remainder)) ∙ ap (λ m. replicate m 0) (sym long)),
)

-- each message of bytes has an encoded word
pub encodable : (n r : ℕ) (message : List ℕ) → 1 ≤ r → r < n → length message ≡ n - r → All IsByte message → (word : List ℕ) × IsEncoded n r message word
encodable n r message some_parity below size all =
    let generator = generator_of r in
    let degree : length generator ≡ r = length-generator_of r in
    let found = remainder_of generator [] message (replicate (length generator) 0) (omega arith) all (IsRemainder-start generator) in
    (message ++ found.0, IsEncoded-from_codeword n r message found.0 size (omega arith) (IsCodeword-from_remainder r generator message found.0 degree (HasRoots-generator_of r) all found.1))

-- a place where both words are equal adds nothing to their distance
same_first : (x d n : ℕ) → d ≤ n → (if x == x then 0 else 1) + d ≤ n
same_first x d n below = grind (arith, nat_tests)

-- words with the same front differ at most in the places after it
distance-prefix : (prefix a b : List ℕ) → length a ≡ length b → distance (prefix ++ a) (prefix ++ b) ≤ length a
unfolding distance
distance-prefix [] [] b same = omega arith
distance-prefix [] (x ∷ a) [] same = absurd (omega arith)
distance-prefix [] (x ∷ a) (y ∷ b) same = at_most_one x y (distance a b) (length a) (distance-prefix [] a b (omega arith))
distance-prefix (x ∷ prefix) a b same = same_first x (distance (prefix ++ a) (prefix ++ b)) (length a) (distance-prefix prefix a b same)

-- a message has one encoded word at most
pub encoded_once : (n r : ℕ) (message a b : List ℕ) → n ≤ 255 → r ≤ n → IsEncoded n r message a → IsEncoded n r message b → a ≡ b
encoded_once n r message a b short fits code_a code_b =
    let size_a : length a ≡ n = code_a.codeword.size in
    let size_b : length b ≡ n = code_b.codeword.size in
    let same : length (drop (n - r) a) ≡ length (drop (n - r) b) = omega (arith, length-drop (n - r) a, length-drop (n - r) b) in
    let prefix : take (n - r) b ≡ take (n - r) a = code_b.begins ∙ sym code_a.begins in
    let parts_b : take (n - r) a ++ drop (n - r) b ≡ b = ap (λ xs. xs ++ drop (n - r) b) (sym prefix) ∙ take-append-drop (n - r) b in
    let close : distance (take (n - r) a ++ drop (n - r) a) (take (n - r) a ++ drop (n - r) b) ≤ length (drop (n - r) a) = distance-prefix (take (n - r) a) (drop (n - r) a) (drop (n - r) b) same in
    let near : distance a b ≤ length (drop (n - r) a) = rw (take-append-drop, parts_b) at close in
    IsCodeword-close n r a b short code_a.codeword code_b.codeword (omega (arith, length-drop (n - r) a))
