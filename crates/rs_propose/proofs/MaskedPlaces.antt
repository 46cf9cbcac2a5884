-- Bytes of which only the highest bit and the low nibble are left: below sixteen, or 128 and more. At both kinds of
-- places something may be looked up, where what is found at the latter is 0.
use Rattle.std.proofs.Common.{◌≡◌, ℕ, zero, suc, ◌<◌, Bool, true, false, ◌&&◌, ◌||◌, inl, inr, List, length, get_or, refl, ap, ◌∙◌, arith, bit_and, w8, replicate}
use mir.Val.{zeroes}
use lib.Dec.{T, ltb}
use Rattle.std.proofs.lemmas.Bool.{cases_eq, and_parts}
use Rattle.std.proofs.lemmas.Simd.{SwzOk, SwzOk-from_Each1, Each1-from_get_or}
use Rattle.std.specs.Simd.Lanes.{Each1, zip2}
use Rattle.rs_lanes.proofs.LaneLemmas.{HoldsLanes-splat, byte_lane}
use Rattle.std.proofs.Common.{Fits}

-- a test holds of each number below n
every : (ℕ → Bool) → ℕ → Bool
every test zero = true
every test (suc n) = test n && every test n

-- so it holds of any of them
every-at : (test : ℕ → Bool) (n k : ℕ) → every test n ≡ true → k < n → test k ≡ true
unfolding every
every-at test zero k holds below = absurd (omega arith)
every-at test (suc n) k holds below = elim (cases_eq k n) [
  | inl same ↦ ap test same ∙ (and_parts _ _ holds).0
  | inr differ ↦ every-at test n k (and_parts _ _ holds).1 (omega (arith, differ))
]

-- a place gives 0 by its highest bit, or is below sixteen
is_place : ℕ → Bool
is_place j = zeroes 16 w8 j || ltb j 16

-- each byte is one of these two once it is masked
masked-place : (b : ℕ) → b < 256 → is_place (bit_and b 143) ≡ true
unfolding every is_place
masked-place b below = every-at (λ b. is_place (bit_and b 143)) 256 b refl below

-- what is true may be asserted
asserted : (b : Bool) → b ≡ true → T b
asserted true holds = tt
asserted false holds = absurd (cc)

-- a vector of bytes that is masked has such places alone
pub SwzOk-masked : (lanes : List ℕ) → (length lanes ≡ 32) × Each1 (Fits w8) lanes → SwzOk w8 16 32 0 (zip2 bit_and lanes (replicate 32 143))
unfolding is_place
SwzOk-masked lanes fits =
    let masked = HoldsLanes-splat 32 bit_and lanes 143 fits.0 in
    SwzOk-from_Each1 w8 16 2 32 0 (zip2 bit_and lanes (replicate 32 143)) (omega arith) (omega (arith, masked.size))
    (Each1-from_get_or (λ j. T (zeroes 16 w8 j || ltb j 16)) (zip2 bit_and lanes (replicate 32 143)) 0
    (λ i inside.
    let below : i < 32 = omega (arith, masked.size) in
    asserted _ (ap is_place (masked.each i below) ∙ masked-place (get_or lanes i 0) (byte_lane 32 lanes fits i below))))
