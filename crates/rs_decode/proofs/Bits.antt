-- Lanes chosen by a bit of other lanes: the terms of a product that is added up bit by bit.
use Rattle.std.proofs.Common.{◌≡◌, ℕ, zero, suc, ◌*◌, ◌/◌, ◌^◌, ◌<◌, Bool, false, cond, eqb, List, length, get_or, map, replicate, bit_and, sym, ◌∙◌, ap, arith, w8}
use Rattle.std.specs.Int.{bit_at}
use Rattle.std.specs.Simd.Lanes.{zip2, sel_l, top}
use Rattle.std.proofs.lemmas.Nat.{and_mask}
use Rattle.std.proofs.lemmas.Nat.Bits.{bit_at-lt}
use Rattle.std.proofs.lemmas.Simd.{get_or-replicate, get_or-sel_l, get_or-zip2, length-replicate, length-sel_l, length-zip2, tops_compared}
use Rattle.rs_lanes.specs.Inner.Lanes.{HoldsLanes}
use Rattle.rs_lanes.proofs.LaneLemmas.{HoldsLanes-splat}

-- a bit times a number: 0 where the bit is
by_bit : (bit n : ℕ) → bit < 2 → cond (eqb bit 0) 0 n ≡ bit * n
by_bit zero n small = let none : 0 ≡ 0 * n = omega arith in none
by_bit (suc zero) n small = let one : n ≡ 1 * n = omega arith in one
by_bit (suc (suc bit)) n small = absurd (omega arith)

-- where bit k of a lane is set, what another vector has there; zeros elsewhere
pub HoldsLanes-chosen : (lanes others : List ℕ) (k : ℕ) → length lanes ≡ 16 → length others ≡ 16
    → HoldsLanes 16 (sel_l (map (top 7) (zip2 (λ x y. cond (eqb x y) 255 0) (zip2 bit_and (zip2 (λ a b. a / 2 ^ b) lanes (replicate 16 k)) (replicate 16 1)) (replicate 16 0))) (replicate 16 0) others)
    (λ i. bit_at (get_or lanes i 0) k * get_or others i 0)
HoldsLanes-chosen lanes others k size others_size =
    let moved = HoldsLanes-splat 16 (λ a b. a / 2 ^ b) lanes k size in
    let shifted_lanes = zip2 (λ a b. a / 2 ^ b) lanes (replicate 16 k) in
    let bits = HoldsLanes-splat 16 bit_and shifted_lanes 1 moved.size in
    let bit_lanes = zip2 bit_and shifted_lanes (replicate 16 1) in
    let zeros : List ℕ = replicate 16 0 in
    let zeros_size : length zeros ≡ 16 = length-replicate {A = ℕ} 16 0 in
    let masks : List Bool = zip2 eqb bit_lanes zeros in
    let masks_size : length masks ≡ 16 = length-zip2 eqb bit_lanes zeros (bits.size ∙ sym zeros_size) ∙ bits.size in
    record {
      size = ap (λ ms. length (sel_l ms zeros others)) (tops_compared w8 eqb bit_lanes zeros)
          ∙ length-sel_l masks zeros others (masks_size ∙ sym zeros_size) (masks_size ∙ sym others_size) ∙ masks_size;
      each = λ i below.
          let bit : get_or bit_lanes i 0 ≡ bit_at (get_or lanes i 0) k =
          bits.each i below ∙ ap (λ x. bit_and x 1) (moved.each i below) ∙ and_mask (get_or lanes i 0 / 2 ^ k) 1 in
          ap (λ ms. get_or (sel_l ms zeros others) i 0) (tops_compared w8 eqb bit_lanes zeros)
          ∙ get_or-sel_l masks zeros others i 0 (omega (arith, below, masks_size)) (omega (arith, below, zeros_size)) (omega (arith, below, others_size))
          ∙ ap (λ t. cond t (get_or zeros i 0) (get_or others i 0))
          (get_or-zip2 eqb bit_lanes zeros i 0 0 false (omega (arith, below, bits.size)) (omega (arith, below, zeros_size)))
          ∙ rw (bit, get_or-replicate {A = ℕ} 16 i 0 0 below) (by_bit (bit_at (get_or lanes i 0) k) (get_or others i 0) (bit_at-lt (get_or lanes i 0) k));
    }
