-- The shift register that divides by the generator: it begins with zeros, and each byte read keeps it a remainder.
use Rattle.std.proofs.Common.{◌≡◌, ℕ, ◌+◌, ◌<◌, List, [], ◌∷◌, ◌++◌, length, get_or, take, All, replicate, refl, sym, ap, subst, ◌∙◌, arith, length-append, append_assoc, add-one}
use Rattle.std.proofs.lemmas.List.{append-nil, take_more, length-replicate}
use Rattle.std.proofs.lemmas.Grind.{same_number_lists}
use Rattle.std.proofs.lemmas.List.Elements.{All-head, All-tail, All-replicate, All-append, All-cons, All-nil}
use Rattle.coding.specs.Field.{plus, product, power}
use Rattle.coding.specs.Words.{IsByte, value}
use Rattle.gf_field.proofs.FieldLaws.{plus-zero_same, product-byte, zero-product, power-suc}
use Rattle.rs_code.specs.Inner.Polynomials.{sum_of, mul_scalar, IsRemainder}
use Rattle.rs_code.proofs.Ring.{ring}
use Rattle.rs_code.proofs.Values.{value-cons, value-append, value-push, value-sum_of, value-mul_scalar, value-zeros, length-sum_of, length-mul_scalar, get_or-sum_of, get_or-mul_scalar}
use Rattle.rs_code.proofs.Generator.{value-led, get_or-padded}
use Rattle.rs_code.proofs.Distance.{All-sum_of}

-- a multiple is made of bytes
pub All-mul_scalar : (factor : ℕ) (word : List ℕ) → All IsByte (mul_scalar factor word)
unfolding mul_scalar
All-mul_scalar factor [] = All-nil IsByte
All-mul_scalar factor (byte ∷ word) = All-cons IsByte (product factor byte) (mul_scalar factor word) (product-byte factor byte) (All-mul_scalar factor word)

-- the register after one byte
unfoldable pub next_register : List ℕ → List ℕ → ℕ → List ℕ
next_register generator [] byte = []
next_register generator (first ∷ rest) byte = sum_of (rest ++ 0 ∷ []) (mul_scalar (plus first byte) generator)

-- before anything is read the remainder is zeros
pub IsRemainder-start : (generator : List ℕ) → IsRemainder generator [] (replicate (length generator) 0)
IsRemainder-start generator = record {
  size = length-replicate (length generator) 0;
  bytes = All-replicate IsByte (length generator) 0 (omega arith);
  vanishes = λ x root. value-zeros (length generator) x;
}

-- Horner's step of the message and the register's shift, with the factor's share of the generator, multiplied out
turned : (v byte first t p x : ℕ) → plus (product (plus (product v x) byte) (product p x)) (plus (plus (product t x) 0) (product (plus first byte) (product p x)))
    ≡ product (plus (product v (product p x)) (plus (product first p) t)) x
turned v byte first t p x = simp ring

-- the register after one more byte is the remainder of what was read with that byte
pub IsRemainder-next : (generator read : List ℕ) (first : ℕ) (rest : List ℕ) (byte : ℕ)
    → byte < 256
    → IsRemainder generator read (first ∷ rest)
    → IsRemainder generator (read ++ byte ∷ []) (next_register generator (first ∷ rest) byte)
unfolding next_register
IsRemainder-next generator read first rest byte is_byte before =
    let long : length (first ∷ rest) ≡ length generator = before.size in
    let same : length (rest ++ 0 ∷ []) ≡ length (mul_scalar (plus first byte) generator) =
    omega (arith, length-append rest (0 ∷ []), length-mul_scalar (plus first byte) generator) in
    let size : length (sum_of (rest ++ 0 ∷ []) (mul_scalar (plus first byte) generator)) ≡ length generator =
    length-sum_of (rest ++ 0 ∷ []) (mul_scalar (plus first byte) generator) same ∙ omega (arith, length-append rest (0 ∷ [])) in
    record {
      size = size;
      bytes = All-sum_of (rest ++ 0 ∷ []) (mul_scalar (plus first byte) generator)
          (All-append IsByte rest (0 ∷ []) (All-tail IsByte first rest before.bytes) (All-cons IsByte 0 [] (omega arith) (All-nil IsByte)))
          (All-mul_scalar (plus first byte) generator);
      vanishes = λ x root.
          let up : power x (length generator) ≡ product (power x (length rest)) x = ap (power x) (sym long) ∙ power-suc x (length rest) in
          let as_led : power x (length generator) ≡ value generator x = plus-zero_same _ _ (sym (value-led generator x) ∙ root) in
          let was : plus (product (value read x) (product (power x (length rest)) x)) (plus (product first (power x (length rest))) (value rest x)) ≡ 0 =
          sym (value-append read (first ∷ rest) x ∙ rw (value-cons first rest x, long, up)) ∙ before.vanishes x root in
          let now : value (sum_of (rest ++ 0 ∷ []) (mul_scalar (plus first byte) generator)) x ≡ plus (plus (product (value rest x) x) 0) (product (plus first byte) (product (power x (length rest)) x)) =
          value-sum_of (rest ++ 0 ∷ []) (mul_scalar (plus first byte) generator) x same
          ∙ rw (value-push rest 0 x (omega arith), value-mul_scalar (plus first byte) generator x, ← as_led, up) in
          value-append (read ++ byte ∷ []) (sum_of (rest ++ 0 ∷ []) (mul_scalar (plus first byte) generator)) x
          ∙ rw (value-push read byte x is_byte, size, up, now)
          (turned (value read x) byte first (value rest x) (power x (length rest)) x ∙ ap (λ v. product v x) was ∙ zero-product x);
    }

-- a register whose bytes are each the next one plus the factor's share of the generator is the remainder with one byte
-- more
pub IsRemainder-from_places : (generator read register after : List ℕ) (byte : ℕ)
    → byte < 256
    → 0 < length register
    → length after ≡ length register
    → ((k : ℕ) → k < length register → get_or after k 0 ≡ plus (get_or register (k + 1) 0) (product (plus (get_or register 0 0) byte) (get_or generator k 0)))
    → IsRemainder generator read register
    → IsRemainder generator (read ++ byte ∷ []) after
unfolding next_register
IsRemainder-from_places generator read [] after byte is_byte some long places before = absurd (omega arith)
IsRemainder-from_places generator read (first ∷ rest) after byte is_byte some long places before =
    let size : length (first ∷ rest) ≡ length generator = before.size in
    let same : length (rest ++ 0 ∷ []) ≡ length (mul_scalar (plus first byte) generator) =
    omega (arith, length-append rest (0 ∷ []), length-mul_scalar (plus first byte) generator) in
    let next = sum_of (rest ++ 0 ∷ []) (mul_scalar (plus first byte) generator) in
    let next_size : length next ≡ length (rest ++ 0 ∷ []) = length-sum_of (rest ++ 0 ∷ []) (mul_scalar (plus first byte) generator) same in
    let is : after ≡ next = same_number_lists after next (omega (arith, length-append rest (0 ∷ [])))
    (λ k below.
    let padded : get_or (rest ++ 0 ∷ []) k 0 ≡ get_or (first ∷ rest) (k + 1) 0 = get_or-padded rest k ∙ rw add-one refl in
    places k (omega arith)
    ∙ sym (get_or-sum_of (rest ++ 0 ∷ []) (mul_scalar (plus first byte) generator) k same ∙ rw (padded, get_or-mul_scalar (plus first byte) generator k))) in
    subst (λ xs. IsRemainder generator (read ++ byte ∷ []) xs) (sym is) (IsRemainder-next generator read first rest byte is_byte before)

-- the register after one more byte, where the generator has a degree
next_remainder : (generator read register : List ℕ) (byte : ℕ)
    → byte < 256
    → 0 < length generator
    → IsRemainder generator read register
    → IsRemainder generator (read ++ byte ∷ []) (next_register generator register byte)
next_remainder generator read [] byte is_byte some_degree before = let long : 0 ≡ length generator = before.size in absurd (omega arith)
next_remainder generator read (first ∷ rest) byte is_byte some_degree before = IsRemainder-next generator read first rest byte is_byte before

-- each list of bytes has a remainder
pub remainder_of : (generator read message register : List ℕ)
    → 0 < length generator
    → All IsByte message
    → IsRemainder generator read register
    → (after : List ℕ) × IsRemainder generator (read ++ message) after
remainder_of generator read [] register some_degree all before = (register, rw (append-nil read) before)
remainder_of generator read (byte ∷ message) register some_degree all before =
    let is_byte = All-head IsByte byte message all in
    let next = next_remainder generator read register byte is_byte some_degree before in
    let after = remainder_of generator (read ++ byte ∷ []) message (next_register generator register byte) some_degree (All-tail IsByte byte message all) next in
    rw append_assoc at after

-- the remainder with the byte at place i is that of the first i + 1 bytes
pub IsRemainder-more : (generator message register : List ℕ) (i byte : ℕ)
    → i < length message
    → byte ≡ get_or message i 0
    → IsRemainder generator (take i message ++ byte ∷ []) register
    → IsRemainder generator (take (i + 1) message) register
IsRemainder-more generator message register i byte inside is after =
    rw (take_more message i 0 inside, ← is) after
