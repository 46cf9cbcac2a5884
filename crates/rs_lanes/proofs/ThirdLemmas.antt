-- Words cut into pieces of one size that are added up (length-folded, get_or-folded_zero, get_or-folded_suc,
-- value-folded), zeros before a word (`after_zeros`, zeros_in_front), and the thirds of words in 32 lanes (third-zero,
-- third-one, third-two, each_of_three, rotated_once, rotated_twice, rotated_back; `AreStored` with none_stored, thirds_more,
-- thirds_bytes, `thirds_told`).
use Rattle.std.proofs.Common.{◌≡◌, ℕ, zero, suc, ◌+◌, ◌-◌, ◌*◌, ◌/◌, ◌%◌, ◌<◌, ◌≤◌, List, [], length, get_or, set, take, drop, replicate, All, refl, sym, ap, subst, ◌∙◌, inl, inr, arith, length-append, length-take-le, length-set, get_or-take, get_or-drop, get_or-set_other}
use Rattle.std.proofs.Math.Seq.{take-add, take-length}
use Rattle.std.proofs.lemmas.Bool.{cases_eq}
use Rattle.std.proofs.lemmas.Grind.{get_or-set_at, same_number_lists}
use Rattle.std.proofs.lemmas.List.Elements.{All-from_get_or}
use Rattle.std.proofs.lemmas.List.FromFn.{get_or-map-range_with_len, length-map-range_with_len}
use Rattle.std.proofs.lemmas.List.{get_or_append_left, get_or-append_right}
use Rattle.std.proofs.lemmas.Simd.{length-chunk, length-replicate, get_or-replicate}
use Rattle.coding.specs.Field.{alpha, plus, shift, shifted, partial_product, product, power}
use Rattle.coding.specs.Words.{IsByte, value}
use Rattle.gf_field.proofs.FieldLaws.{plus-byte, plus-product, product-plus, product-comm, product-assoc, one-product, product-byte, product-one, power-zero, power-add, power-mul, power-alpha-mod, power-alpha-shifted, zero-product, zero-plus}
use Rattle.rs_code.specs.Inner.Polynomials.{mul_scalar}
use Rattle.rs_code.proofs.Ring.{ring}
use Rattle.rs_code.proofs.Values.{value-append, value-sum_of, value-mul_scalar, value-zeros, length-sum_of, get_or-sum_of, length-mul_scalar, get_or-mul_scalar, value-more}
use Rattle.coding.specs.Rows.{line, place}
use Rattle.rs_lanes.specs.Inner.Lanes.{HasLanes}
use Rattle.rs_lanes.specs.Inner.Thirds.{after_zeros, folded, third_byte, third_at, third, AreStored, IsThird}

-- pieces that are added up have the size of one
pub length-folded : (size factor : ℕ) (word : List ℕ) (i : ℕ) → size * i + size ≤ length word → length (folded size factor word i) ≡ size
unfolding folded
length-folded size factor word zero fits = length-take-le size word (omega arith)
length-folded size factor word (suc i) fits =
    let more : size * suc i ≡ size * i + size = omega arith in
    let before = length-folded size factor word i (omega arith) in
    let as_long : length (mul_scalar factor (folded size factor word i)) ≡ size = length-mul_scalar factor (folded size factor word i) ∙ before in
    length-sum_of (mul_scalar factor (folded size factor word i)) (take size (drop (size * suc i) word)) (as_long ∙ sym (length-chunk (size * suc i) size word fits)) ∙ as_long

-- a place of the first piece
pub get_or-folded_zero : (size factor : ℕ) (word : List ℕ) (q : ℕ) → q < size → get_or (folded size factor word 0) q 0 ≡ get_or word q 0
unfolding folded
get_or-folded_zero size factor word q below = get_or-take size word q 0 below

-- a place of the pieces after one step more
pub get_or-folded_suc : (size factor : ℕ) (word : List ℕ) (i q : ℕ) → q < size → size * suc i + size ≤ length word
    → get_or (folded size factor word (suc i)) q 0 ≡ plus (product factor (get_or (folded size factor word i) q 0)) (get_or word (size * suc i + q) 0)
unfolding folded
get_or-folded_suc size factor word i q below fits =
    let more : size * suc i ≡ size * i + size = omega arith in
    let before = length-folded size factor word i (omega arith) in
    let as_long : length (mul_scalar factor (folded size factor word i)) ≡ size = length-mul_scalar factor (folded size factor word i) ∙ before in
    get_or-sum_of (mul_scalar factor (folded size factor word i)) (take size (drop (size * suc i) word)) q (as_long ∙ sym (length-chunk (size * suc i) size word fits))
    ∙ rw (get_or-mul_scalar factor (folded size factor word i) q, get_or-take size (drop (size * suc i) word) q 0 below, get_or-drop (size * suc i) word q 0) refl

-- a place after one step more, as a step of Horner's rule has it
pub folded_more : (size factor : ℕ) (word : List ℕ) (i q sum next : ℕ) → q < size → size * suc i + size ≤ length word
    → sum ≡ get_or (folded size factor word i) q 0 → next ≡ get_or word (size * suc i + q) 0
    → plus (product factor sum) next ≡ get_or (folded size factor word (suc i)) q 0
folded_more size factor word i q sum next below fits is_sum is_next = rw (is_sum, is_next) (sym (get_or-folded_suc size factor word i q below fits))

-- where the factor is x to the power of their size, the pieces have the value at x of what they were cut from
pub value-folded : (size x : ℕ) (word : List ℕ) (i : ℕ) → size * i + size ≤ length word
    → value (folded size (power x size) word i) x ≡ value (take (size * i + size) word) x
unfolding folded
value-folded size x word zero fits =
    let one : size ≡ size * 0 + size = omega arith in
    ap (λ n. value (take n word) x) one
value-folded size x word (suc i) fits =
    let factor = power x size in
    let at = size * suc i in
    let more : size * i + size ≡ at = omega arith in
    let before = folded size factor word i in
    let piece = take size (drop at word) in
    let as_long : length (mul_scalar factor before) ≡ size = length-mul_scalar factor before ∙ length-folded size factor word i (omega arith) in
    let long : length piece ≡ size = length-chunk at size word fits in
    let same : value before x ≡ value (take at word) x = value-folded size x word i (omega arith) ∙ ap (λ n. value (take n word) x) more in
    value-sum_of (mul_scalar factor before) piece x (as_long ∙ sym long)
    ∙ ap (λ v. plus v (value piece x)) (value-mul_scalar factor before x ∙ ap (product factor) same ∙ product-comm factor (value (take at word) x)
    ∙ ap (λ n. product (value (take at word) x) (power x n)) (sym long))
    ∙ sym (value-append (take at word) piece x)
    ∙ ap (λ w. value w x) (sym (take-add at size word))

-- five pieces of 17 bytes added up to one have the value of all 85
pub value-fives : (x : ℕ) (word : List ℕ) (n : ℕ) → length word ≡ 85 → n ≡ 17 → value (take n (folded 17 (power x 17) word 4)) x ≡ value word x
value-fives x word n long all =
    let five = folded 17 (power x 17) word 4 in
    let size : length five ≡ 17 = length-folded 17 (power x 17) word 4 (omega arith) in
    ap (λ m. value (take m five) x) (all ∙ sym size)
    ∙ ap (λ w. value w x) (take-length five)
    ∙ value-folded 17 x word 4 (omega arith)
    ∙ ap (λ m. value (take m word) x) (sym long)
    ∙ ap (λ w. value w x) (take-length word)

-- one byte more of them was read
pub value-fives_more : (x : ℕ) (word : List ℕ) (q sum next : ℕ) → length word ≡ 85 → q < 17 → next < 256
    → sum ≡ value (take q (folded 17 (power x 17) word 4)) x → next ≡ get_or (folded 17 (power x 17) word 4) q 0
    → plus (product x sum) next ≡ value (take (q + 1) (folded 17 (power x 17) word 4)) x
value-fives_more x word q sum next long below byte is_sum is_next =
    let five = folded 17 (power x 17) word 4 in
    let size : length five ≡ 17 = length-folded 17 (power x 17) word 4 (omega arith) in
    rw (is_sum, is_next) (sym (value-more five q x (omega arith) (subst (λ b. b < 256) is_next byte)))

-- ---- zeros in front

-- a word with zeros in front is as long as both together
pub length-after_zeros : (count : ℕ) (word : List ℕ) → length (after_zeros count word) ≡ count + length word
unfolding after_zeros
length-after_zeros count word = length-append (replicate {A = ℕ} count 0) word ∙ ap (λ n. n + length word) (length-replicate {A = ℕ} count 0)

-- a place of the zeros
pub get_or-after_zeros_front : (count : ℕ) (word : List ℕ) (p : ℕ) → p < count → get_or (after_zeros count word) p 0 ≡ 0
unfolding after_zeros
get_or-after_zeros_front count word p under =
    get_or_append_left (replicate {A = ℕ} count 0) word 0 p (omega (arith, length-replicate {A = ℕ} count 0)) ∙ get_or-replicate {A = ℕ} count p 0 0 under

-- a lane of zeros is one of these places
pub zeros_first : (count : ℕ) (word lanes : List ℕ) (p j : ℕ) → lanes ≡ replicate 32 0 → p < count → j < 32 → get_or lanes j 0 ≡ get_or (after_zeros count word) p 0
zeros_first count word lanes p j zeros under below =
    ap (λ l. get_or l j 0) zeros ∙ get_or-replicate {A = ℕ} 32 j 0 0 below ∙ sym (get_or-after_zeros_front count word p under)

-- a place of the word after them
pub get_or-after_zeros_back : (count : ℕ) (word : List ℕ) (p : ℕ) → count ≤ p → get_or (after_zeros count word) p 0 ≡ get_or word (p - count) 0
unfolding after_zeros
get_or-after_zeros_back count word p over = get_or-append_right (replicate {A = ℕ} count 0) word count p 0 (length-replicate {A = ℕ} count 0) over

-- zeros in front change no value
pub value-after_zeros : (count : ℕ) (word : List ℕ) (x : ℕ) → value (after_zeros count word) x ≡ value word x
unfolding after_zeros
value-after_zeros count word x =
    value-append (replicate {A = ℕ} count 0) word x ∙ rw (value-zeros count x, zero-product, zero-plus) refl

-- ---- thirds

-- the power of alpha^k by 85 goes by k mod 3
power-85 : (k i : ℕ) → k % 3 ≡ i → power (power alpha k) 85 ≡ power alpha (85 * i)
power-85 k i rest =
    let exponent : k * 85 % 255 ≡ 85 * i = omega arith in
    sym (power-mul alpha k 85) ∙ sym (power-alpha-mod (k * 85)) ∙ ap (power alpha) exponent

-- alpha^85 is 0xD6
power-alpha-85 : power alpha 85 ≡ 0xD6
unfolding shifted shift
power-alpha-85 = power-alpha-shifted 85 ∙ refl

-- alpha^170 is 0xD7
power-alpha-170 : power alpha 170 ≡ 0xD7
unfolding shifted shift
power-alpha-170 = power-alpha-shifted 170 ∙ refl

-- the square of 0xD6
square-d6 : product 0xD6 0xD6 ≡ 0xD7
unfolding product partial_product shifted shift
square-d6 = refl

-- the square of 0xD7
square-d7 : product 0xD7 0xD7 ≡ 0xD6
unfolding product partial_product shifted shift
square-d7 = refl

-- 0xD7 is 0xD6 and 1
product-d7 : (a : ℕ) → a < 256 → product 0xD7 a ≡ plus (product 0xD6 a) a
product-d7 a byte =
    plus-product 0xD6 1 a ∙ ap (plus (product 0xD6 a)) (one-product a byte)

-- three pieces added up for the exponents 0 mod 3
pub third-zero : (a b c : ℕ) → a < 256 → b < 256
    → plus (plus a b) c ≡ third_byte 0 a b c
third-zero a b c byte_a byte_b =
    ap (λ s. plus s c) (sym (rw (power-zero, one-product a byte_a) (one-product (plus a b) (plus-byte a b byte_a byte_b))))

-- the sum where the factor's square is the factor and 1
third-by_square : (f a b c : ℕ) → product f (product f a) ≡ plus (product f a) a
    → plus (product (plus a b) f) (plus a c) ≡ plus (product f (plus (product f a) b)) c
third-by_square f a b c square = rw (product-plus f (product f a) b, square) (simp ring)

-- for the exponents 1 mod 3
pub third-one : (a b c : ℕ) → a < 256 → b < 256
    → plus (product (plus a b) 0xD6) (plus a c) ≡ third_byte 1 a b c
third-one a b c byte_a byte_b =
    rw power-alpha-85 (third-by_square 0xD6 a b c (sym (product-assoc 0xD6 0xD6 a) ∙ ap (λ f. product f a) square-d6 ∙ product-d7 a byte_a))

-- the sum where another factor's square is this one
third-by_root : (f g a b c : ℕ) → product g (product g a) ≡ product f a → product g b ≡ plus (product f b) b
    → plus (product (plus a b) f) (plus b c) ≡ plus (product g (plus (product g a) b)) c
third-by_root f g a b c square next = rw (product-plus g (product g a) b, square, next) (simp ring)

-- for the exponents 2 mod 3
pub third-two : (a b c : ℕ) → a < 256 → b < 256
    → plus (product (plus a b) 0xD6) (plus b c) ≡ third_byte 2 a b c
third-two a b c byte_a byte_b =
    rw power-alpha-170 (third-by_root 0xD6 0xD7 a b c (sym (product-assoc 0xD7 0xD7 a) ∙ ap (λ f. product f a) square-d7) (product-d7 b byte_b))

-- what holds of the first three numbers
pub each_of_three : (P : ℕ → Type 0) → P 0 → P 1 → P 2 → (i : ℕ) → i < 3 → P i
each_of_three P p0 p1 p2 zero below = p0
each_of_three P p0 p1 p2 (suc zero) below = p1
each_of_three P p0 p1 p2 (suc (suc zero)) below = p2
each_of_three P p0 p1 p2 (suc (suc (suc i))) below = absurd (omega arith)

-- ---- rotations of thirds

-- powers of alpha whose exponents add up to a multiple of 255 change nothing together
pub rotated_back : (a e f : ℕ) → a < 256 → (e + f) % 255 ≡ 0 → product (product a (power alpha e)) (power alpha f) ≡ a
rotated_back a e f byte whole =
    product-assoc a (power alpha e) (power alpha f)
    ∙ ap (product a) (sym (power-add alpha e f) ∙ sym (power-alpha-mod (e + f)) ∙ ap (power alpha) whole ∙ power-zero alpha)
    ∙ product-one a byte

-- Horner's rule on three bytes, multiplied by a factor whose third power is 1
horner-rotated : (w a b c : ℕ) → product w (product w (product w a)) ≡ a
    → plus (product w (plus (product w b) c)) a ≡ product (plus (product w (plus (product w a) b)) c) w
horner-rotated w a b c cube =
    ap (plus (product w (plus (product w b) c))) (sym cube) ∙ simp ring

-- the three pieces' places in a circle rotate a third
third-rotated : (i a b c : ℕ) → a < 256 → third_byte i b c a ≡ product (third_byte i a b c) (power alpha (85 * i))
third-rotated i a b c byte =
    let w = power alpha (85 * i) in
    let square : product w w ≡ power alpha (85 * i + 85 * i) = sym (power-add alpha (85 * i) (85 * i)) in
    let all : (85 * i + 85 * i + 85 * i) % 255 ≡ 0 = omega arith in
    let cube : product w (product w (product w a)) ≡ a =
    ap (product w) (sym (product-assoc w w a) ∙ product-comm (product w w) a)
    ∙ product-comm w (product a (product w w))
    ∙ ap (λ s. product (product a s) w) square
    ∙ rotated_back a (85 * i + 85 * i) (85 * i) byte all in
    horner-rotated w a b c cube

-- exponents of a rotation are the same for rotations that are the same by 3
rotations_same : (i rotations rest : ℕ) → i < 3 → rotations % 3 ≡ rest % 3 → power alpha (85 * (i * rotations)) ≡ power alpha (85 * (i * rest))
rotations_same i rotations rest below same =
    let exponents : 85 * (i * rotations) % 255 ≡ 85 * (i * rest) % 255 =
    each_of_three (λ i. 85 * (i * rotations) % 255 ≡ 85 * (i * rest) % 255) (omega arith) (omega (arith, same)) (omega (arith, same)) i below in
    sym (power-alpha-mod (85 * (i * rotations))) ∙ ap (power alpha) exponents ∙ power-alpha-mod (85 * (i * rest))

-- a third that isn't rotated
pub rotated_none : (i rotations b : ℕ) → i < 3 → rotations % 3 ≡ 0 → b < 256 → b ≡ product b (power alpha (85 * (i * rotations)))
rotated_none i rotations b below rest byte =
    let none : 85 * (i * 0) ≡ 0 = omega arith in
    sym (ap (product b) (rotations_same i rotations 0 below rest ∙ ap (power alpha) none ∙ power-zero alpha) ∙ product-one b byte)

-- one that is rotated i times
pub rotated_once : (i rotations a b c : ℕ) → i < 3 → rotations % 3 ≡ 1 → a < 256 → third_byte i b c a ≡ product (third_byte i a b c) (power alpha (85 * (i * rotations)))
rotated_once i rotations a b c below rest byte =
    let one : 85 * (i * 1) ≡ 85 * i = omega arith in
    third-rotated i a b c byte ∙ ap (product (third_byte i a b c)) (sym (rotations_same i rotations 1 below rest ∙ ap (power alpha) one))

-- and one that is rotated 2 i times
pub rotated_twice : (i rotations a b c : ℕ) → i < 3 → rotations % 3 ≡ 2 → a < 256 → b < 256 → third_byte i c a b ≡ product (third_byte i a b c) (power alpha (85 * (i * rotations)))
rotated_twice i rotations a b c below rest byte_a byte_b =
    let two : 85 * (i * 2) ≡ 85 * i + 85 * i = omega arith in
    third-rotated i b c a byte_b
    ∙ ap (λ t. product t (power alpha (85 * i))) (third-rotated i a b c byte_a)
    ∙ product-assoc (third_byte i a b c) (power alpha (85 * i)) (power alpha (85 * i))
    ∙ ap (product (third_byte i a b c)) (sym (power-add alpha (85 * i) (85 * i)) ∙ sym (rotations_same i rotations 2 below rest ∙ ap (power alpha) two))

-- what is stored of a place, rotated i times more for each piece after its own
pub stored_back : (i q b : ℕ) → i < 3 → b < 256 → product (product b (power alpha (85 * (i * (2 * (4 - q / 17)))))) (power alpha (85 * (i * (4 - q / 17)))) ≡ b
stored_back i q b below byte =
    let n = 4 - q / 17 in
    rotated_back b (85 * (i * (2 * n))) (85 * (i * n)) byte
    (each_of_three (λ i. (85 * (i * (2 * n)) + 85 * (i * n)) % 255 ≡ 0) (omega arith) (omega arith) (omega arith) i below)

-- a third whose places are the pieces' sums has the word's values
pub IsThird-folded : (zeros i : ℕ) (word sums : List ℕ) → zeros + length word ≡ 255 → length sums ≡ 85
    → ((q : ℕ) → q < 85 → get_or sums q 0 ≡ get_or (folded 85 (power alpha (85 * i)) (after_zeros zeros word) 2) q 0)
    → IsThird i word sums
IsThird-folded zeros i word sums whole size same =
    let padded = after_zeros zeros word in
    let factor = power alpha (85 * i) in
    let long : length padded ≡ 255 = length-after_zeros zeros word ∙ whole in
    let are : sums ≡ folded 85 factor padded 2 =
    same_number_lists sums (folded 85 factor padded 2) (size ∙ sym (length-folded 85 factor padded 2 (omega arith))) (λ q below. same q (omega arith)) in
    record {
      size = size;
      values = λ k rest.
          let x = power alpha k in
          ap (λ w. value w x) are
          ∙ ap (λ f. value (folded 85 f padded 2) x) (sym (power-85 k i rest))
          ∙ value-folded 85 x padded 2 (omega arith)
          ∙ ap (λ n. value (take n padded) x) (sym long)
          ∙ ap (λ w. value w x) (take-length padded)
          ∙ value-after_zeros zeros word x;
    }

-- a third has 85 places
pub length-third : (thirds : List (List (List ℕ))) (i j : ℕ) → length (third thirds i j) ≡ 85
unfolding third
length-third thirds i j = length-map-range_with_len (third_at thirds i j) 0 85

-- each by what is stored of it
pub get_or-third : (thirds : List (List (List ℕ))) (i j q : ℕ) → q < 85 → get_or (third thirds i j) q 0 ≡ third_at thirds i j q
unfolding third
get_or-third thirds i j q below = get_or-map-range_with_len (third_at thirds i j) 0 85 q q 0 below (omega arith)

-- at the beginning no place is asked for
pub none_stored : (count : ℕ) (word : ℕ → List ℕ) (thirds : List (List (List ℕ))) → length thirds ≡ 85 → AreStored count word 0 thirds
none_stored count word thirds size = record {
  size = size;
  set = λ q i j below. absurd (omega arith);
  bytes = λ q m j below. absurd (omega arith);
}

-- a place of the three pieces added up to one
third_byte-folded : (i q a b c : ℕ) (padded : List ℕ) → length padded ≡ 255 → q < 85
    → a ≡ get_or padded q 0 → b ≡ get_or padded (85 + q) 0 → c ≡ get_or padded (170 + q) 0
    → third_byte i a b c ≡ get_or (folded 85 (power alpha (85 * i)) padded 2) q 0
third_byte-folded i q a b c padded long below is_a is_b is_c =
    let factor = power alpha (85 * i) in
    folded_more 85 factor padded 1 q (plus (product factor a) b) c below (omega arith)
    (folded_more 85 factor padded 0 q a b below (omega arith) (is_a ∙ sym (get_or-folded_zero 85 factor padded q below)) is_b)
    is_c

-- one place more
pub thirds_more : (zeros : ℕ) (word : ℕ → List ℕ) (q to rotations : ℕ) (thirds : List (List (List ℕ))) (a b c : List ℕ) (three : List (List ℕ))
    → q < 85 → to ≡ q + 1 → rotations ≡ 2 * (4 - q / 17)
    → ((j : ℕ) → zeros + length (word j) ≡ 255)
    → AreStored zeros word q thirds
    → ((j : ℕ) → j < 32 → get_or a j 0 ≡ get_or (after_zeros zeros (word j)) q 0)
    → ((j : ℕ) → j < 32 → get_or b j 0 ≡ get_or (after_zeros zeros (word j)) (85 + q) 0)
    → ((j : ℕ) → j < 32 → get_or c j 0 ≡ get_or (after_zeros zeros (word j)) (170 + q) 0)
    → ((j : ℕ) → j < 32 → (get_or a j 0 < 256) × (get_or b j 0 < 256) × (get_or c j 0 < 256))
    → ((i : ℕ) → i < 3 → HasLanes (line three i) (λ j. product (third_byte i (get_or a j 0) (get_or b j 0) (get_or c j 0)) (power alpha (85 * (i * rotations)))))
    → AreStored zeros word to (set thirds q three)
thirds_more zeros word q to rotations thirds a b c three inside is_to is_rotations whole has is_a is_b is_c bytes sums = record {
  size = length-set thirds q three ∙ has.size;
  set = λ p i j below third lane.
      let long : length (after_zeros zeros (word j)) ≡ 255 = length-after_zeros zeros (word j) ∙ whole j in
      let size = has.size in
      elim (cases_eq p q) [
        | inl same ↦
            let factor = power alpha (85 * (i * (4 - p / 17))) in
            let byte : third_byte i (get_or a j 0) (get_or b j 0) (get_or c j 0) < 256 = plus-byte _ _ (product-byte _ _) (bytes j lane).2 in
            ap (λ vectors. product (place vectors i j) factor) (get_or-set_at thirds q p three [] same (omega arith))
            ∙ ap (λ b. product b factor) ((sums i third).each j lane)
            ∙ ap (λ n. product (product (third_byte i (get_or a j 0) (get_or b j 0) (get_or c j 0)) (power alpha (85 * (i * n)))) factor) is_rotations
            ∙ ap (λ n. product (product (third_byte i (get_or a j 0) (get_or b j 0) (get_or c j 0)) (power alpha (85 * (i * (2 * (4 - q / 17)))))) (power alpha (85 * (i * (4 - n / 17))))) same
            ∙ stored_back i q _ third byte
            ∙ third_byte-folded i q (get_or a j 0) (get_or b j 0) (get_or c j 0) (after_zeros zeros (word j)) long inside (is_a j lane) (is_b j lane) (is_c j lane)
            ∙ ap (λ n. get_or (folded 85 (power alpha (85 * i)) (after_zeros zeros (word j)) 2) n 0) (sym same)
        | inr apart ↦
            ap (λ vectors. product (place vectors i j) (power alpha (85 * (i * (4 - p / 17))))) (get_or-set_other thirds q p three [] apart)
            ∙ has.set p i j (omega arith) third lane
      ];
  bytes = λ p m j below third lane.
      elim (cases_eq p q) [
        | inl same ↦
            let at = after_zeros zeros (word j) in
            let first : (n : ℕ) → n ≡ q → get_or at n 0 < 256 = λ n is. subst (λ k. get_or at k 0 < 256) (sym is) (subst (λ b. b < 256) (is_a j lane) (bytes j lane).0) in
            let second : (n : ℕ) → n ≡ 85 + q → get_or at n 0 < 256 = λ n is. subst (λ k. get_or at k 0 < 256) (sym is) (subst (λ b. b < 256) (is_b j lane) (bytes j lane).1) in
            let last : (n : ℕ) → n ≡ 170 + q → get_or at n 0 < 256 = λ n is. subst (λ k. get_or at k 0 < 256) (sym is) (subst (λ b. b < 256) (is_c j lane) (bytes j lane).2) in
            elim (cases_eq m 0) [
              | inl none ↦ first (85 * m + p) (omega arith)
              | inr some ↦ elim (cases_eq m 1) [ inl one ↦ second (85 * m + p) (omega arith) | inr more ↦ last (85 * m + p) (omega arith) ]
            ]
        | inr apart ↦ has.bytes p m j (omega arith) third lane
      ];
}

-- a word whose places after zeros were all added up has bytes
pub thirds_bytes : (zeros : ℕ) (word : ℕ → List ℕ) (thirds : List (List (List ℕ))) (j : ℕ) → zeros + length (word j) ≡ 255 → AreStored zeros word 85 thirds → j < 32
    → All IsByte (word j)
thirds_bytes zeros word thirds j whole has lane =
    All-from_get_or IsByte (word j) 0
    (λ i inside.
    let p = zeros + i in
    let at : 85 * (p / 85) + p % 85 ≡ p = omega arith in
    let is : get_or (after_zeros zeros (word j)) (85 * (p / 85) + p % 85) 0 ≡ get_or (word j) i 0 =
    ap (λ n. get_or (after_zeros zeros (word j)) n 0) at
    ∙ get_or-after_zeros_back zeros (word j) p (omega arith)
    ∙ ap (λ n. get_or (word j) n 0) (omega arith) in
    subst (λ b. b < 256) is (has.bytes (p % 85) (p / 85) j (omega arith) (omega arith) lane))

-- and its thirds have its values
pub thirds_told : (zeros : ℕ) (word : ℕ → List ℕ) (thirds : List (List (List ℕ))) (i j : ℕ) → zeros + length (word j) ≡ 255 → AreStored zeros word 85 thirds → i < 3 → j < 32
    → IsThird i (word j) (third thirds i j)
thirds_told zeros word thirds i j whole has below lane =
    IsThird-folded zeros i (word j) (third thirds i j) whole (length-third thirds i j)
    (λ q inside. get_or-third thirds i j q inside ∙ has.set q i j inside below lane)
