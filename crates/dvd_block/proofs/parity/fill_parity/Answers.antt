-- The proof of `fill_parity` in src/parity.rt.
use Rattle.std.proofs.Common.{◌≡◌, ℕ, ◌<◌, List, [], ◌++◌, take, sym, ap, ◌∙◌, subst, arith}
use Rattle.std.proofs.lemmas.List.{get_or_append_left}
use Rattle.coding.specs.Words.{IsEncoded}
use Rattle.coding.specs.Product.{line}
use Rattle.dvd_block.proofs.Filling.{IsFilled, filled_below, cells_of, parity_added}
use Rattle.dvd_block.proofs.parity.fill_parity.Goals as goal

module _ (c : goal.After-rows-2-1) where
  -- the rows as they came
  abbrev old : List (List ℕ)
  old = c.args.rows.now

  -- the upper 192 rows with their inner parity
  abbrev upper : List (List ℕ)
  upper = c.rows_parity.new.rows

  -- the sixteen rows of outer parity
  abbrev lower : List (List ℕ)
  lower = c.outer_parity.new.parity

  -- together they are the rows filled
  filled : IsFilled old upper (cells_of lower) (upper ++ lower)
  filled =
      let was : List (List ℕ) = c.split_at_mut-upper.result.0.now in
      let row_is : (i : ℕ) → i < 192 → line was i ≡ line old i =
      λ i above. sym (ap (λ (rows : List (List ℕ)). line rows i) c.split_at_mut-upper.ensures.value
      ∙ get_or_append_left was c.split_at_mut-upper.result.1.now [] i (omega (arith, c.split_at_mut-upper.ensures.front_len))) in
      filled_below old upper lower (c.rows_parity.ensures.size ∙ c.split_at_mut-upper.ensures.front_len) c.outer_parity.ensures.size
      (λ i above. subst (λ (row : List ℕ). IsEncoded 182 10 (take 172 row) (line upper i)) (row_is i above)
      (c.rows_parity.ensures.encoded i (omega (arith, c.rows_parity.ensures.size, c.split_at_mut-upper.ensures.front_len))))
      c.outer_parity.ensures.encoded
      c.outer_parity.ensures.sizes

pub returns-clause-added : goal.returns-clause-added
returns-clause-added c = parity_added (old c) (upper c) (cells_of (lower c)) (upper c ++ lower c) (filled c)
