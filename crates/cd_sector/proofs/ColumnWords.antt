-- Columns as codewords by their values at 1 and at alpha: what their bytes give (codeword_by_values, zero_values), and
-- the two bytes that make them codewords (with_parity).
use Rattle.std.proofs.Common.{◌≡◌, ℕ, zero, suc, ◌+◌, ◌<◌, List, [], ◌∷◌, ◌++◌, length, get_or, take, All, refl, sym, ◌∙◌, ap, ap₂, length-append, append_assoc, subst, arith}
use Rattle.std.proofs.lemmas.List.Elements.{All-append, All-from_get_or}
use Rattle.coding.specs.Field.{alpha, shift, shifted, partial_product, plus, product, power}
use Rattle.coding.specs.Words.{IsByte, IsCodeword, value}
use Rattle.coding.specs.Rows.{place}
use Rattle.gf_field.proofs.FieldLaws.{plus-comm, plus-assoc, plus-zero, plus-self, plus-byte, product-byte, product-plus, plus-product, product-assoc, product-comm, product-one, one-product, power-zero, power-one}
use Rattle.rs_code.proofs.Values.{value-byte, value-more, value-push}

-- Horner's step at 1
pub sum-more : (word : List ℕ) (i : ℕ) → i < length word → get_or word i 0 < 256 → plus (value (take i word) 1) (get_or word i 0) ≡ value (take (i + 1) word) 1
sum-more word i inside is_byte =
    ap (λ (v : ℕ). plus v (get_or word i 0)) (sym (one-product (value (take i word) 1) (value-byte (take i word) 1)))
    ∙ sym (value-more word i 1 inside is_byte)

-- and at alpha
pub alpha-more : (word : List ℕ) (i : ℕ) → i < length word → get_or word i 0 < 256
    → plus (get_or word i 0) (product (value (take i word) alpha) 2) ≡ value (take (i + 1) word) alpha
alpha-more word i inside is_byte =
    plus-comm (get_or word i 0) (product (value (take i word) alpha) 2)
    ∙ ap (λ (v : ℕ). plus v (get_or word i 0)) (product-comm (value (take i word) alpha) 2)
    ∙ sym (value-more word i alpha inside is_byte)

-- a word whose values at 1 and at alpha are 0 is a codeword
pub codeword_by_values : (n : ℕ) (word : List ℕ) → length word ≡ n → All IsByte word → value word 1 ≡ 0 → value word alpha ≡ 0 → IsCodeword n 2 word
codeword_by_values n word size bytes at_one at_alpha = record {
  size = size;
  bytes = bytes;
  vanishes = vanishes;
}
  where
    vanishes : (k : ℕ) → k < 2 → value word (power alpha k) ≡ 0
    vanishes zero below = ap (value word) (power-zero alpha) ∙ at_one
    vanishes (suc zero) below = ap (value word) (power-one alpha (omega arith)) ∙ at_alpha
    vanishes (suc (suc k)) below = absurd (omega arith)

-- and a codeword has these values
pub zero_values : (n : ℕ) (word : List ℕ) → IsCodeword n 2 word → (value word 1 ≡ 0) × (value word alpha ≡ 0)
zero_values n word codeword = (
  ap (value word) (sym (power-zero alpha)) ∙ codeword.vanishes 0 (omega arith),
  ap (value word) (sym (power-one alpha (omega arith))) ∙ codeword.vanishes 1 (omega arith),
)

-- the third of 1
third_of_one : product 0xF4 3 ≡ 1
unfolding product partial_product shifted shift
third_of_one = refl

-- the third of 4
third_of_four : product 0xF7 3 ≡ product 2 2
unfolding product partial_product shifted shift
third_of_four = refl

-- thrice the first byte is the sum and four times the value at alpha
thrice : (sum at_alpha : ℕ) → sum < 256 → product (plus (product sum 0xF4) (product at_alpha 0xF7)) 3 ≡ plus sum (product (product at_alpha 2) 2)
thrice sum at_alpha sum_byte =
    plus-product (product sum 0xF4) (product at_alpha 0xF7) 3
    ∙ ap₂ plus
    (product-assoc sum 0xF4 3 ∙ ap (product sum) third_of_one ∙ product-one sum sum_byte)
    (product-assoc at_alpha 0xF7 3 ∙ ap (product at_alpha) third_of_four ∙ sym (product-assoc at_alpha 2 2))

-- two bytes more at the end of a word
value-two : (word : List ℕ) (p q x : ℕ) → p < 256 → q < 256 → value (word ++ p ∷ q ∷ []) x ≡ plus (product (plus (product (value word x) x) p) x) q
value-two word p q x p_byte q_byte =
    ap (λ (l : List ℕ). value l x) (sym (append_assoc word (p ∷ []) (q ∷ [])))
    ∙ value-push (word ++ p ∷ []) q x q_byte
    ∙ ap (λ (v : ℕ). plus (product v x) q) (value-push word p x p_byte)

-- The two bytes that make a word a codeword: the first by the values of the word, and the sum of both is the word's.
pub with_parity : (word : List ℕ) (p q : ℕ) → All IsByte word → p ≡ plus (product (value word 1) 0xF4) (product (value word alpha) 0xF7) → q ≡ plus p (value word 1)
    → IsCodeword (length word + 2) 2 (word ++ p ∷ q ∷ [])
with_parity word p q bytes p_is q_is =
    codeword_by_values (length word + 2) (word ++ p ∷ q ∷ []) (length-append word (p ∷ q ∷ []))
    (All-append IsByte word (p ∷ q ∷ []) bytes (All-from_get_or IsByte (p ∷ q ∷ []) 0 two)) at_one at_alpha
  where
    sum : ℕ
    sum = value word 1

    weighed : ℕ
    weighed = value word alpha

    sum_byte : sum < 256
    sum_byte = value-byte word 1

    p_byte : p < 256
    p_byte = subst (λ (b : ℕ). b < 256) (sym p_is) (plus-byte (product sum 0xF4) (product weighed 0xF7) (product-byte sum 0xF4) (product-byte weighed 0xF7))

    q_byte : q < 256
    q_byte = subst (λ (b : ℕ). b < 256) (sym q_is) (plus-byte p sum p_byte sum_byte)

    two : (i : ℕ) → i < 2 → get_or (p ∷ q ∷ []) i 0 < 256
    two zero below = p_byte
    two (suc zero) below = q_byte
    two (suc (suc i)) below = absurd (omega arith)

    at_one : value (word ++ p ∷ q ∷ []) 1 ≡ 0
    at_one =
        value-two word p q 1 p_byte q_byte
        ∙ ap (λ (v : ℕ). plus v q) (product-one (plus (product sum 1) p) (plus-byte (product sum 1) p (product-byte sum 1) p_byte) ∙ ap (λ (v : ℕ). plus v p) (product-one sum sum_byte))
        ∙ ap₂ plus (plus-comm sum p) q_is
        ∙ plus-self (plus p sum)

    four : ℕ
    four = product (product weighed 2) 2

    at_alpha : value (word ++ p ∷ q ∷ []) alpha ≡ 0
    at_alpha =
        value-two word p q 2 p_byte q_byte
        ∙ ap₂ plus (plus-product (product weighed 2) p 2) q_is
        ∙ plus-assoc four (product p 2) (plus p sum)
        ∙ ap (plus four)
        (sym (plus-assoc (product p 2) p sum)
        ∙ ap (λ (v : ℕ). plus v sum)
        (ap (plus (product p 2)) (sym (product-one p p_byte)) ∙ sym (product-plus p 2 1) ∙ ap (λ (v : ℕ). product v 3) p_is ∙ thrice sum weighed sum_byte ∙ plus-comm sum four)
        ∙ plus-assoc four sum sum ∙ ap (plus four) (plus-self sum) ∙ plus-zero four)
        ∙ plus-self four

-- two vectors that are both zero at a lane
pub both_zero : (vectors : List (List ℕ)) (j : ℕ) → place vectors 0 j ≡ 0 → place vectors 1 j ≡ 0 → (k : ℕ) → k < 2 → place vectors k j ≡ 0
both_zero vectors j first second zero below = first
both_zero vectors j first second (suc zero) below = second
both_zero vectors j first second (suc (suc k)) below = absurd (omega arith)
