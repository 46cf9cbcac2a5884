-- The rows of a block out of recorded rows that are moved frame by frame.
use Rattle.std.proofs.Common.{◌≡◌, ◌⊎◌, ◌∙◌, ℕ, ◌+◌, ◌-◌, ◌*◌, ◌<◌, ◌≤◌, List, [], take, drop, inl, inr, sym, ap, subst, arith}
use Rattle.std.proofs.lemmas.Bool.Decides.{nat_tests}
use Rattle.std.proofs.lemmas.List.{take-take}
use Rattle.coding.specs.Recording.{record_at}
use Rattle.dvd_capture.specs.Captured.{captured_rows, record_of}
use Rattle.dvd_capture.specs.Parts.{row_in, rows_in}
use Rattle.dvd_capture.specs.declared.form.Form.TheVariants.{Plain}
use Rattle.dvd_capture.proofs.FlatRows.{below_or, rows_in-height, rows_in-line}
use Rattle.dvd_capture.proofs.Mapped.{mapped}

-- where the rows of frame f are recorded
record_inner : (f k : ℕ) → f < 16 → k < 12 → record_at (12 * f + k) ≡ 13 * f + k
record_inner f k few below = grind (arith, nat_tests)

record_outer : (f : ℕ) → f < 16 → record_at (192 + f) ≡ 13 * f + 12
record_outer f few = grind (arith, nat_tests)

-- The rows of one data frame more are in their places. Those that are recorded from this frame on were as they came.
pub frame_more : (came before after : List ℕ) (f : ℕ) → f < 16
    → ((k : ℕ) → k < 12 → row_in after (12 * f + k) ≡ row_in before (13 * f + k))
    → ((i : ℕ) → i < 12 * f → row_in after i ≡ row_in before i)
    → ((i : ℕ) → 13 * f ≤ i → row_in before i ≡ row_in came i)
    → ((i : ℕ) → i < 12 * f → row_in before i ≡ row_in came (record_at i))
    → (i : ℕ) → i < 12 * (f + 1) → row_in after i ≡ row_in came (record_at i)
frame_more came before after f few moved kept rest earlier i below = by_place (below_or i (12 * f)) where
  by_place : (i < 12 * f) ⊎ (12 * f ≤ i) → row_in after i ≡ row_in came (record_at i)
  by_place (inl less) = kept i less ∙ earlier i less
  by_place (inr more) =
      let k : ℕ = i - 12 * f in
      let low : k < 12 = omega (arith, below, more) in
      let here : 12 * f + k ≡ i = omega (arith, more) in
      subst (λ (n : ℕ). row_in after n ≡ row_in came (record_at n)) here
      (moved k low ∙ rest (13 * f + k) (omega arith) ∙ ap (row_in came) (sym (record_inner f k few low)))

-- one row of outer parity more is kept
pub parity_more : (came bytes before after : List ℕ) (f : ℕ)
    → row_in after f ≡ row_in bytes (13 * f + 12)
    → ((g : ℕ) → g < f → row_in after g ≡ row_in before g)
    → ((i : ℕ) → 13 * f ≤ i → row_in bytes i ≡ row_in came i)
    → ((g : ℕ) → g < f → row_in before g ≡ row_in came (13 * g + 12))
    → (g : ℕ) → g < f + 1 → row_in after g ≡ row_in came (13 * g + 12)
parity_more came bytes before after f here kept rest earlier g below = by_place (below_or g f) where
  by_place : (g < f) ⊎ (f ≤ g) → row_in after g ≡ row_in came (13 * g + 12)
  by_place (inl less) = kept g less ∙ earlier g less
  by_place (inr more) =
      let same : f ≡ g = omega (arith, below, more) in
      subst (λ (n : ℕ). row_in after n ≡ row_in came (13 * n + 12)) same (here ∙ rest (13 * f + 12) (omega arith))

-- all rows are in their places once those of outer parity come after the sixteen frames
pub all_in_order : (came before parity after : List ℕ)
    → ((i : ℕ) → i < 192 → row_in after i ≡ row_in before i)
    → ((k : ℕ) → k < 16 → row_in after (192 + k) ≡ row_in parity k)
    → ((i : ℕ) → i < 192 → row_in before i ≡ row_in came (record_at i))
    → ((g : ℕ) → g < 16 → row_in parity g ≡ row_in came (13 * g + 12))
    → (i : ℕ) → i < 208 → row_in after i ≡ row_in came (record_at i)
all_in_order came before parity after kept put inner outer i below = by_place (below_or i 192) where
  by_place : (i < 192) ⊎ (192 ≤ i) → row_in after i ≡ row_in came (record_at i)
  by_place (inl less) = kept i less ∙ inner i less
  by_place (inr more) =
      let k : ℕ = i - 192 in
      let low : k < 16 = omega (arith, below, more) in
      let here : 192 + k ≡ i = omega (arith, more) in
      subst (λ (n : ℕ). row_in after n ≡ row_in came (record_at n)) here
      (put k low ∙ outer k low ∙ ap (row_in came) (sym (record_outer k low)))

-- rows in the order of the block are those captured in the bytes as they came
pub order_captured : (came ordered : List ℕ) → ((i : ℕ) → i < 208 → row_in ordered i ≡ row_in came (record_at i))
    → rows_in ordered ≡ captured_rows Plain came
unfolding captured_rows
order_captured came ordered each =
    mapped (λ (i : ℕ). take 182 (record_of Plain came (record_at i))) (rows_in ordered) 208 [] (rows_in-height ordered)
    (λ i below. rows_in-line ordered i below ∙ each i below ∙ sym (take-take 182 182 (drop (182 * record_at i) came) (omega arith)))
