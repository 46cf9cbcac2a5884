-- The marks of a row, a byte for each.
use Rattle.std.proofs.Common.{◌≡◌, ◌⊎◌, ℕ, zero, suc, ◌+◌, ◌-◌, ◌*◌, ◌/◌, ◌%◌, ◌^◌, ◌<◌, ◌≢◌, ◌==◌, Bool, true, false, List, [], ◌∷◌, length, get_or, set, not, if◌then◌else◌, replicate, inl, inr, refl, sym, ◌∙◌, ap, subst, arith, bit_and}
use Rattle.std.specs.Simd.Lanes.{zip2}
use Rattle.std.specs.Int.{bit_at}
use Rattle.std.proofs.lemmas.Bool.{cases_lt}
use Rattle.std.proofs.lemmas.Bool.Decides.{eqb_tells}
use Rattle.std.proofs.lemmas.List.{get_or-set_other, get_or-set_same}
use Rattle.std.proofs.lemmas.Nat.{pow_pos}
use Rattle.std.proofs.lemmas.Nat.Bits.{and_pow, bit_at-lt}
use Rattle.std.proofs.lemmas.Simd.{get_or-replicate, get_or-zip2}
use Rattle.dvd_capture.specs.MarkBits.{is_set, mark_at}

-- a byte that isn't 0 marks its place
is_set-some : (byte : ℕ) → 0 < byte → is_set byte ≡ true
is_set-some byte some = by_cases (eqb_tells byte 0)
  where
    by_cases : (((byte == 0) ≡ true) × (byte ≡ 0)) ⊎ (((byte == 0) ≡ false) × (byte ≢ 0)) → is_set byte ≡ true
    by_cases (inl is) = absurd (omega (arith, some, is.1))
    by_cases (inr is) = rw is.0 refl

-- the mark of a place, and its bit in a byte of its own
pub mark-spread : (byte place : ℕ) → is_set (bit_and byte (2 ^ place)) ≡ (bit_at byte place == 1)
mark-spread byte place = ap is_set (and_pow byte place) ∙ by_bit (bit_at byte place) (bit_at-lt byte place)
  where
    some : (bit : ℕ) → bit < 2 → (bit ≡ 0) ⊎ (bit ≡ 1)
    some bit few = elim (cases_lt bit 1) [ inl low ↦ inl (omega (arith, low)) | inr high ↦ inr (omega (arith, high, few)) ]

    never : 0 * 2 ^ place ≡ 0
    never = omega arith

    once : 1 * 2 ^ place ≡ 2 ^ place
    once = omega arith

    by_case : (bit : ℕ) → (bit ≡ 0) ⊎ (bit ≡ 1) → is_set (bit * 2 ^ place) ≡ (bit == 1)
    by_case bit (inl none) = subst (λ b. is_set (b * 2 ^ place) ≡ (b == 1)) (sym none) (ap is_set never)
    by_case bit (inr one) = subst (λ b. is_set (b * 2 ^ place) ≡ (b == 1)) (sym one) (ap is_set once ∙ is_set-some (2 ^ place) (pow_pos place))

    by_bit : (bit : ℕ) → bit < 2 → is_set (bit * 2 ^ place) ≡ (bit == 1)
    by_bit bit few = by_case bit (some bit few)

-- the bits of eight places, the first the highest
abbrev eight_bits : List ℕ
eight_bits = 128 ∷ 64 ∷ 32 ∷ 16 ∷ 8 ∷ 4 ∷ 2 ∷ 1 ∷ []

-- bit i of them
bit-of_place : (i : ℕ) → i < 8 → get_or eight_bits i 0 ≡ 2 ^ (7 - i)
bit-of_place zero below = refl
bit-of_place (suc zero) below = refl
bit-of_place (suc (suc zero)) below = refl
bit-of_place (suc (suc (suc zero))) below = refl
bit-of_place (suc (suc (suc (suc zero)))) below = refl
bit-of_place (suc (suc (suc (suc (suc zero))))) below = refl
bit-of_place (suc (suc (suc (suc (suc (suc zero)))))) below = refl
bit-of_place (suc (suc (suc (suc (suc (suc (suc zero))))))) below = refl
bit-of_place (suc (suc (suc (suc (suc (suc (suc (suc i)))))))) below = absurd (omega (arith, below))

-- the bit of a place in its byte, chosen by its lane
pub lane-bit : (byte i : ℕ) → i < 8 → is_set (get_or (zip2 bit_and (replicate 8 byte) eight_bits) i 0) ≡ (bit_at byte (7 - i) == 1)
lane-bit byte i few =
    ap is_set (get_or-zip2 bit_and (replicate 8 byte) eight_bits i 0 0 0 (omega (arith, few)) (omega (arith, few)))
    ∙ (λ j. is_set (bit_and (get_or-replicate 8 i byte 0 few j) (bit-of_place i few j)))
    ∙ mark-spread byte (7 - i)

-- the marks of eight places more, a byte for each
pub spread-more : (bits marks new_marks : List ℕ) (k : ℕ) → ((q : ℕ) → q < 8 * k → is_set (get_or marks q 0) ≡ mark_at bits q)
    → ((q : ℕ) → q < 8 * k → get_or new_marks q 0 ≡ get_or marks q 0)
    → ((i : ℕ) → i < 8 → is_set (get_or new_marks (8 * k + i) 0) ≡ (bit_at (get_or bits k 0) (7 - i) == 1))
    → (q : ℕ) → q < 8 * (k + 1) → is_set (get_or new_marks q 0) ≡ mark_at bits q
spread-more bits marks new_marks k before same set q below = elim (cases_lt q (8 * k)) [
  | inl low ↦ ap is_set (same q low) ∙ before q low
  | inr high ↦ here (q - 8 * k) (omega (arith, below, high)) (omega (arith, high))
]
  where
    here : (i : ℕ) → i < 8 → 8 * k + i ≡ q → is_set (get_or new_marks q 0) ≡ mark_at bits q
    here i few whole =
        let byte : k ≡ q / 8 = omega (arith, few, whole) in
        let place : 7 - i ≡ 7 - q % 8 = omega (arith, few, whole) in
        ap (λ m. is_set (get_or new_marks m 0)) (sym whole) ∙ set i few ∙ (λ j. bit_at (get_or bits (byte j) 0) (place j) == 1)

-- a byte that isn't 0 says that its place is marked
pub not-zero : (byte : ℕ) → not (byte == 0) ≡ is_set byte
not-zero byte = by (byte == 0)
  where
    by : (none : Bool) → not none ≡ (if none then false else true)
    by true = refl
    by false = refl

-- one mark more
pub mark-more : (is : ℕ → Bool) (marks : List Bool) (j : ℕ) (mark : Bool) → j < length marks → ((k : ℕ) → k < j → get_or marks k false ≡ is k) → mark ≡ is j
    → (k : ℕ) → k < j + 1 → get_or (set marks j mark) k false ≡ is k
mark-more is marks j mark inside before here k below = elim (cases_lt k j) [
  | inl low ↦ get_or-set_other marks j k mark false (λ e. omega (arith, low, e)) ∙ before k low
  | inr high ↦ (let last : k ≡ j = omega (arith, high, below) in
      ap (λ m. get_or (set marks j mark) m false) last ∙ get_or-set_same marks j mark false inside ∙ here ∙ ap is (sym last))
]
