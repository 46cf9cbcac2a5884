-- The value of a word at a point: of joined words, of sums and multiples, of zeros, and one byte on.
use Rattle.std.proofs.Common.{◌≡◌, ℕ, zero, suc, ◌+◌, ◌<◌, List, [], ◌∷◌, ◌++◌, length, get_or, take, replicate, refl, sym, ap, ◌∙◌, arith, length-append, add-one}
use Rattle.std.proofs.lemmas.List.{length-map, take_more}
use Rattle.coding.specs.Field.{plus, product, power}
use Rattle.coding.specs.Words.{value}
use Rattle.gf_field.proofs.FieldLaws.{plus-byte, product-byte, power-zero, power-suc, power-add, product-assoc, product-comm, product-one, zero-product, product-zero, zero-plus, plus-zero}
use Rattle.rs_code.specs.Inner.Polynomials.{sum_of, mul_scalar}
use Rattle.rs_code.proofs.Ring.{ring}

-- the value of the empty word is 0
pub value-nil : (x : ℕ) → value [] x ≡ 0
unfolding value
value-nil x = refl

-- a first byte counts as often as the power of x by the number of bytes after it
pub value-cons : (byte : ℕ) (rest : List ℕ) (x : ℕ) → value (byte ∷ rest) x ≡ plus (product byte (power x (length rest))) (value rest x)
unfolding value
value-cons byte rest x = refl

-- a value is a byte
pub value-byte : (word : List ℕ) (x : ℕ) → value word x < 256
value-byte [] x = rw value-nil (omega arith)
value-byte (byte ∷ rest) x = rw value-cons (plus-byte _ _ (product-byte byte (power x (length rest))) (value-byte rest x))

-- a first byte before two joined words, multiplied out
one_more : (c first back v w : ℕ) → plus (product c (product first back)) (plus (product v back) w) ≡ plus (product (plus (product c first) v) back) w
one_more c first back v w = simp ring

-- a word before another counts as often as the power of x by the other's length
pub value-append : (a b : List ℕ) (x : ℕ) → value (a ++ b) x ≡ plus (product (value a x) (power x (length b))) (value b x)
value-append [] b x = simp (value-nil, zero-product, zero-plus)
value-append (byte ∷ a) b x =
    let longer : power x (length (a ++ b)) ≡ product (power x (length a)) (power x (length b)) = ap (power x) (length-append a b) ∙ power-add x (length a) (length b) in
    simp (value-cons, longer, value-append a b x) (one_more byte (power x (length a)) (power x (length b)) (value a x) (value b x))

-- Horner's step
pub value-push : (word : List ℕ) (byte x : ℕ) → byte < 256 → value (word ++ byte ∷ []) x ≡ plus (product (value word x) x) byte
value-push word byte x is_byte =
    let last : value (byte ∷ []) x ≡ byte = value-cons byte [] x ∙ simp (power-zero, value-nil, plus-zero, product-one byte is_byte) in
    let once : product (value word x) (power x 1) ≡ product (value word x) x = rw (power-suc, power-zero, ← product-assoc, product-one (value word x) (value-byte word x)) in
    value-append word (byte ∷ []) x ∙ simp (last, once)

-- a sum of two words of one length has that length
pub length-sum_of : (a b : List ℕ) → length a ≡ length b → length (sum_of a b) ≡ length a
unfolding sum_of
length-sum_of [] b same = refl
length-sum_of (x ∷ a) [] same = absurd (omega arith)
length-sum_of (x ∷ a) (y ∷ b) same = ap suc (length-sum_of a b (omega arith))

-- each byte of a sum is the sum of the two bytes
pub get_or-sum_of : (a b : List ℕ) (k : ℕ) → length a ≡ length b → get_or (sum_of a b) k 0 ≡ plus (get_or a k 0) (get_or b k 0)
unfolding sum_of
get_or-sum_of [] [] k same = refl
get_or-sum_of [] (y ∷ b) k same = absurd (omega arith)
get_or-sum_of (x ∷ a) [] k same = absurd (omega arith)
get_or-sum_of (x ∷ a) (y ∷ b) zero same = refl
get_or-sum_of (x ∷ a) (y ∷ b) (suc k) same = get_or-sum_of a b k (omega arith)

-- the value of a sum is the sum of the values
pub value-sum_of : (a b : List ℕ) (x : ℕ) → length a ≡ length b → value (sum_of a b) x ≡ plus (value a x) (value b x)
unfolding sum_of
value-sum_of [] [] x same = simp (value-nil, plus-zero)
value-sum_of [] (d ∷ b) x same = absurd (omega arith)
value-sum_of (c ∷ a) [] x same = absurd (omega arith)
value-sum_of (c ∷ a) (d ∷ b) x same =
    let rest : length a ≡ length b = omega arith in
    let as_long : power x (length (sum_of a b)) ≡ power x (length a) = ap (power x) (length-sum_of a b rest) in
    let as_long_too : power x (length b) ≡ power x (length a) = ap (power x) (sym rest) in
    simp (value-cons, as_long, as_long_too, value-sum_of a b x rest, ring)

-- a multiple of a word is as long as the word
pub length-mul_scalar : (factor : ℕ) (word : List ℕ) → length (mul_scalar factor word) ≡ length word
unfolding mul_scalar
length-mul_scalar factor word = length-map word (product factor)

-- a multiple begins with the multiple of the first byte
pub mul_scalar-cons : (factor byte : ℕ) (word : List ℕ) → mul_scalar factor (byte ∷ word) ≡ product factor byte ∷ mul_scalar factor word
unfolding mul_scalar
mul_scalar-cons factor byte word = refl

-- each byte of a multiple is the factor times the word's byte
pub get_or-mul_scalar : (factor : ℕ) (word : List ℕ) (k : ℕ) → get_or (mul_scalar factor word) k 0 ≡ product factor (get_or word k 0)
unfolding mul_scalar
get_or-mul_scalar factor [] k = sym (product-zero factor)
get_or-mul_scalar factor (byte ∷ word) zero = refl
get_or-mul_scalar factor (byte ∷ word) (suc k) = get_or-mul_scalar factor word k

-- the value of a multiple is the factor times the word's value
pub value-mul_scalar : (factor : ℕ) (word : List ℕ) (x : ℕ) → value (mul_scalar factor word) x ≡ product factor (value word x)
unfolding mul_scalar
value-mul_scalar factor [] x = simp (value-nil, product-zero)
value-mul_scalar factor (byte ∷ word) x =
    let as_long : power x (length (mul_scalar factor word)) ≡ power x (length word) = ap (power x) (length-mul_scalar factor word) in
    value-cons (product factor byte) (mul_scalar factor word) x
    ∙ simp (as_long, value-cons, value-mul_scalar factor word x, ring)

-- the value of zeros is 0
pub value-zeros : (n x : ℕ) → value (replicate n 0) x ≡ 0
value-zeros zero x = value-nil x
value-zeros (suc n) x = simp (value-cons, zero-product, zero-plus, value-zeros n x)

-- Horner's step in a loop over the word
pub value-more : (word : List ℕ) (i x : ℕ) → i < length word → get_or word i 0 < 256 → value (take (i + 1) word) x ≡ plus (product x (value (take i word) x)) (get_or word i 0)
value-more word i x inside is_byte =
    ap (λ w. value w x) (take_more word i 0 inside)
    ∙ value-push (take i word) (get_or word i 0) x is_byte
    ∙ ap (λ p. plus p (get_or word i 0)) (product-comm (value (take i word) x) x)

-- a power's next step, as a loop counts
pub power-more : (a k : ℕ) → power a (k + 1) ≡ product (power a k) a
power-more a k = rw add-one (power-suc a k)
