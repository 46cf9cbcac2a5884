-- The proof of `copy_transposed` in src/copying.rt.
use Rattle.std.proofs.Common.{◌≡◌, ◌∙◌, ℕ, ◌+◌, ◌-◌, ◌<◌, ◌≤◌, ◌⊎◌, inl, inr, List, get_or, ap, arith}
use Rattle.std.proofs.lemmas.Bool.{cases_lt}
use Rattle.coding.specs.Product.{place}
use Rattle.dvd_capture.specs.declared.parts.ColumnAnswer.{ColumnAnswer}
use Rattle.dvd_read.specs.Inner.Standing.{AreColumnsOf}
use Rattle.dvd_read.proofs.copying.copy_transposed.Goals as goal

-- the bytes of rows that are copied before a place, and those of 32 from there on
both : (rows : List (List ℕ)) (transposed : List (List ℕ)) (old new : List ColumnAnswer) (top : ℕ)
    → ((j n : ℕ) → j < 182 → n < 32 → place transposed j n ≡ place rows (top + n) j) → AreColumnsOf rows old top
    → ((j n : ℕ) (d : ColumnAnswer) → j < 182 → n < 32 → get_or (get_or new j d).bytes (top + n) 0 ≡ place transposed j n)
    → ((j i : ℕ) (d : ColumnAnswer) → i < top → get_or (get_or new j d).bytes i 0 ≡ get_or (get_or old j d).bytes i 0) → AreColumnsOf rows new (top + 32)
both rows transposed old new top is before set below j i d inside under = by (cases_lt i top) where
  by : (i < top) ⊎ (top ≤ i) → get_or (get_or new j d).bytes i 0 ≡ place rows i j
  by (inl above) = below j i d above ∙ before j i d inside above
  by (inr past) =
      let here : i ≡ top + (i - top) = omega arith in
      ap (λ (n : ℕ). get_or (get_or new j d).bytes n 0) here ∙ set j (i - top) d inside (omega arith) ∙ is j (i - top) inside (omega arith)
      ∙ ap (λ (n : ℕ). place rows n j) {x = top + (i - top)} (omega arith)

pub returns-clause-copied : goal.returns-clause-copied
returns-clause-copied c = λ rows is before.
    both rows c.args.transposed.now c.args.columns.now c.loop-j.columns c.args.top is before
    (λ j n d inside under. c.loop-j.invariant.set j n d (omega arith) under) (λ j i d above. c.loop-j.invariant.below j i d above)
