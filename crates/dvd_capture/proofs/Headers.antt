-- The bytes of a header.
use Rattle.std.proofs.Common.{◌≡◌, ◌∙◌, ℕ, zero, suc, ◌<◌, ◌^◌, ◌==◌, true, List, [], ◌∷◌, ◌++◌, length, map, take, drop, get_or, slice_index, nat_lt, refl, sym, ap, arith}
use Rattle.std.specs.Int.{from_be_bytes, to_be_bytes, w32}
use Rattle.std.specs.List.{range_with_len}
use Rattle.std.proofs.lemmas.Bool.Decides.{nat_tests}
use Rattle.std.proofs.lemmas.Nat.{be_bytes_4, from_be_bytes-to_be_bytes_4}
use Rattle.dvd_capture.specs.Header.{header_bytes, initial_bytes, may_be_there}
use Rattle.dvd_capture.specs.Laws.{HeadersDiffer}
use Rattle.dvd_capture.specs.declared.header.Header.{Header}
use Rattle.dvd_capture.proofs.Mapped.{mapped}

-- 32 bytes one by one
pub each_byte : (bytes : List ℕ) → length bytes ≡ 32 → map (slice_index bytes) (range_with_len 0 32) ≡ bytes
each_byte bytes size = sym (mapped (slice_index bytes) bytes 32 0 size (λ k below. refl))

-- each of four bytes is below 256
four_small : (a b c d i : ℕ) → a < 256 → b < 256 → c < 256 → d < 256 → get_or (a ∷ b ∷ c ∷ d ∷ []) i 0 < 256
four_small a b c d zero sa sb sc sd = sa
four_small a b c d (suc zero) sa sb sc sd = sb
four_small a b c d (suc (suc zero)) sa sb sc sd = sc
four_small a b c d (suc (suc (suc zero))) sa sb sc sd = sd
four_small a b c d (suc (suc (suc (suc i)))) sa sb sc sd = omega arith

-- a number that was read from four bytes is written as these
four_bytes : (a b c d n : ℕ) → a < 256 → b < 256 → c < 256 → d < 256 → n ≡ from_be_bytes w32 (a ∷ b ∷ c ∷ d ∷ []) → to_be_bytes w32 n ≡ a ∷ b ∷ c ∷ d ∷ []
four_bytes a b c d n sa sb sc sd is = be_bytes_4 (a ∷ b ∷ c ∷ d ∷ []) n refl (λ i. four_small a b c d i sa sb sc sd) is

-- where the test says that a byte is below a bound, it is
below_by : (b n : ℕ) → nat_lt b n ≡ true → b < n
below_by b n is = grind (arith, nat_tests)

-- a byte that may be at place 8 of a header names one of the three shapes
pub shape-known : (b : ℕ) → may_be_there 8 b ≡ true → b < 3
unfolding may_be_there
shape-known b is = below_by b 3 is

-- a byte that may be at place 9 of a header names one of the two zones
pub zones-known : (b : ℕ) → may_be_there 9 b ≡ true → b < 2
unfolding may_be_there
zones-known b is = below_by b 2 is

-- where the test says that two numbers are equal, they are
equal_by : (b n : ℕ) → (b == n) ≡ true → b ≡ n
equal_by b n is = grind (arith, nat_tests)

-- the parts of a header in their order
abbrev joined : ℕ → ℕ → List ℕ → List ℕ → List ℕ → List ℕ → List ℕ
joined shape zones sectors0 sectors1 initial tail = initial_bytes ++ shape ∷ zones ∷ 0 ∷ 0 ∷ sectors0 ++ sectors1 ++ initial ++ tail ++ 0 ∷ 0 ∷ 0 ∷ 0 ∷ []

module _ (b : ℕ → ℕ) (may : (k : ℕ) → k < 32 → may_be_there k (b k) ≡ true) (small : (k : ℕ) → k < 32 → b k < 256)
    (header : Header) (shape : header.shape ≡ b 8) (zones : header.zones ≡ b 9)
    (sectors0 : header.sectors0 ≡ from_be_bytes w32 (b 12 ∷ b 13 ∷ b 14 ∷ b 15 ∷ [])) (sectors1 : header.sectors1 ≡ from_be_bytes w32 (b 16 ∷ b 17 ∷ b 18 ∷ b 19 ∷ []))
    (initial : header.initial ≡ from_be_bytes w32 (b 20 ∷ b 21 ∷ b 22 ∷ b 23 ∷ [])) (tail : header.tail ≡ from_be_bytes w32 (b 24 ∷ b 25 ∷ b 26 ∷ b 27 ∷ [])) where
  -- a byte of the header that passes the test for one value has this value
  fixed : (k n : ℕ) → (b k == n) ≡ true → b k ≡ n
  fixed k n is = equal_by (b k) n is

  -- 32 bytes that may all be at their places are those of the header that was read from them
  pub header-is : header_bytes header ≡ map b (range_with_len 0 32)
  unfolding header_bytes may_be_there
  header-is =
      let e0 : b 0 ≡ 0x44 = fixed 0 0x44 (may 0 (omega arith)) in
      let e1 : b 1 ≡ 0x56 = fixed 1 0x56 (may 1 (omega arith)) in
      let e2 : b 2 ≡ 0x44 = fixed 2 0x44 (may 2 (omega arith)) in
      let e3 : b 3 ≡ 0x45 = fixed 3 0x45 (may 3 (omega arith)) in
      let e4 : b 4 ≡ 0x43 = fixed 4 0x43 (may 4 (omega arith)) in
      let e5 : b 5 ≡ 0x43 = fixed 5 0x43 (may 5 (omega arith)) in
      let e6 : b 6 ≡ 0 = fixed 6 0 (may 6 (omega arith)) in
      let e7 : b 7 ≡ 2 = fixed 7 2 (may 7 (omega arith)) in
      let e10 : b 10 ≡ 0 = fixed 10 0 (may 10 (omega arith)) in
      let e11 : b 11 ≡ 0 = fixed 11 0 (may 11 (omega arith)) in
      let e28 : b 28 ≡ 0 = fixed 28 0 (may 28 (omega arith)) in
      let e29 : b 29 ≡ 0 = fixed 29 0 (may 29 (omega arith)) in
      let e30 : b 30 ≡ 0 = fixed 30 0 (may 30 (omega arith)) in
      let e31 : b 31 ≡ 0 = fixed 31 0 (may 31 (omega arith)) in
      let s0 = four_bytes (b 12) (b 13) (b 14) (b 15) header.sectors0 (small 12 (omega arith)) (small 13 (omega arith)) (small 14 (omega arith)) (small 15 (omega arith)) sectors0 in
      let s1 = four_bytes (b 16) (b 17) (b 18) (b 19) header.sectors1 (small 16 (omega arith)) (small 17 (omega arith)) (small 18 (omega arith)) (small 19 (omega arith)) sectors1 in
      let i = four_bytes (b 20) (b 21) (b 22) (b 23) header.initial (small 20 (omega arith)) (small 21 (omega arith)) (small 22 (omega arith)) (small 23 (omega arith)) initial in
      let t = four_bytes (b 24) (b 25) (b 26) (b 27) header.tail (small 24 (omega arith)) (small 25 (omega arith)) (small 26 (omega arith)) (small 27 (omega arith)) tail in
      ap (λ (n : ℕ). joined n header.zones (to_be_bytes w32 header.sectors0) (to_be_bytes w32 header.sectors1) (to_be_bytes w32 header.initial) (to_be_bytes w32 header.tail)) shape
      ∙ ap (λ (n : ℕ). joined (b 8) n (to_be_bytes w32 header.sectors0) (to_be_bytes w32 header.sectors1) (to_be_bytes w32 header.initial) (to_be_bytes w32 header.tail)) zones
      ∙ ap (λ (l : List ℕ). joined (b 8) (b 9) l (to_be_bytes w32 header.sectors1) (to_be_bytes w32 header.initial) (to_be_bytes w32 header.tail)) s0
      ∙ ap (λ (l : List ℕ). joined (b 8) (b 9) (b 12 ∷ b 13 ∷ b 14 ∷ b 15 ∷ []) l (to_be_bytes w32 header.initial) (to_be_bytes w32 header.tail)) s1
      ∙ ap (λ (l : List ℕ). joined (b 8) (b 9) (b 12 ∷ b 13 ∷ b 14 ∷ b 15 ∷ []) (b 16 ∷ b 17 ∷ b 18 ∷ b 19 ∷ []) l (to_be_bytes w32 header.tail)) i
      ∙ ap (λ (l : List ℕ). joined (b 8) (b 9) (b 12 ∷ b 13 ∷ b 14 ∷ b 15 ∷ []) (b 16 ∷ b 17 ∷ b 18 ∷ b 19 ∷ []) (b 20 ∷ b 21 ∷ b 22 ∷ b 23 ∷ []) l) t
      ∙ rw (e0, e1, e2, e3, e4, e5, e6, e7, e10, e11, e28, e29, e30, e31) refl

-- four bytes of a header are those of one number
number_same : (m n : ℕ) → m < 2 ^ 32 → n < 2 ^ 32 → to_be_bytes w32 m ≡ to_be_bytes w32 n → m ≡ n
number_same m n small_m small_n same = sym (from_be_bytes-to_be_bytes_4 m small_m) ∙ ap (from_be_bytes w32) same ∙ from_be_bytes-to_be_bytes_4 n small_n

-- headers with the same 32 bytes have the same shape, zones and numbers
pub headers_differ : HeadersDiffer
unfolding header_bytes
headers_differ a b small_a small_b same = record {
  shape = ap (λ l. slice_index l 8) same;
  zones = ap (λ l. slice_index l 9) same;
  sectors0 = number_same a.sectors0 b.sectors0 small_a.0 small_b.0 (ap (λ (l : List ℕ). take 4 (drop 12 l)) same);
  sectors1 = number_same a.sectors1 b.sectors1 small_a.1 small_b.1 (ap (λ (l : List ℕ). take 4 (drop 16 l)) same);
  initial = number_same a.initial b.initial small_a.2 small_b.2 (ap (λ (l : List ℕ). take 4 (drop 20 l)) same);
  tail = number_same a.tail b.tail small_a.3 small_b.3 (ap (λ (l : List ℕ). take 4 (drop 24 l)) same);
}
