-- The proof of `are_zeros` in src/row_marks.rt.
use Rattle.std.proofs.Common.{◌≡◌, ◌∙◌, ℕ, ◌+◌, ◌-◌, ◌<◌, List, length, replicate, take, drop, get_or, bit_or, get_or-take, get_or-drop, length-take-le, refl, sym, ap, inl, inr, arith}
use Rattle.std.specs.Simd.Lanes.{zip2}
use Rattle.std.proofs.lemmas.Bool.{cases_lt, eqb-true, eq-eqb}
use Rattle.std.proofs.lemmas.Grind.{same_number_lists}
use Rattle.std.proofs.lemmas.List.{length-drop, length-replicate, get_or-replicate}
use Rattle.rs_lanes.proofs.LaneLemmas.{HoldsLanes-zip2, either-zero, joined-zero}
use Rattle.dvd_capture.proofs.row_marks.are_zeros.Goals as goal

pub returns : goal.returns
returns c =
    let bytes : List ℕ = c.args.bytes.now in
    let size : length bytes ≡ 22 = c.requires in
    let first : List ℕ = take 16 bytes in
    let last : List ℕ = take 16 (drop 6 bytes) in
    let long_first : length first ≡ 16 = length-take-le 16 bytes (omega (arith, size)) in
    let long_last : length last ≡ 16 = length-take-le 16 (drop 6 bytes) (omega (arith, size, length-drop 6 bytes)) in
    let both = HoldsLanes-zip2 16 bit_or first last long_first long_last in
    let says = joined-zero 0 (zip2 bit_or first last) in
    let of_first : (k : ℕ) → k < 16 → get_or first k 0 ≡ get_or bytes k 0 = λ k below. get_or-take 16 bytes k 0 below in
    let of_last : (k : ℕ) → k < 16 → get_or last k 0 ≡ get_or bytes (6 + k) 0 = λ k below. get_or-take 16 (drop 6 bytes) k 0 below ∙ get_or-drop 6 bytes k 0 in (
      (λ none.
          let zero : (k : ℕ) → k < 16 → (get_or first k 0 ≡ 0) × (get_or last k 0 ≡ 0) = λ k below.
          (either-zero (get_or first k 0) (get_or last k 0)).0 (sym (both.each k below) ∙ (says.0 (eqb-true _ _ none)).1 k (omega (arith, both.size))) in
          same_number_lists bytes (replicate 22 0) (size ∙ sym (length-replicate {A = ℕ} 22 0))
          (λ k below.
          elim (cases_lt k 16) [
            | inl low ↦ sym (of_first k low) ∙ (zero k low).0 ∙ sym (get_or-replicate {A = ℕ} 22 k 0 0 (omega (arith, size)))
            | inr high ↦
                let at : 6 + (k - 6) ≡ k = omega arith in
                let inside : k - 6 < 16 = omega (arith, size) in
                ap (λ n. get_or bytes n 0) (sym at) ∙ sym (of_last (k - 6) inside) ∙ (zero (k - 6) inside).1 ∙ sym (get_or-replicate {A = ℕ} 22 k 0 0 (omega (arith, size)))
          ])),
      (λ zeros.
          let at : (k : ℕ) → k < 22 → get_or bytes k 0 ≡ 0 = λ k below. ap (λ l. get_or l k 0) zeros ∙ get_or-replicate {A = ℕ} 22 k 0 0 below in
          eq-eqb _ _ (says.1 (
            refl,
            λ k below.
                let small : k < 16 = omega (arith, both.size) in
                both.each k small ∙ (either-zero (get_or first k 0) (get_or last k 0)).1 (of_first k small ∙ at k (omega arith), of_last k small ∙ at (6 + k) (omega arith)),
          ))),
    )
