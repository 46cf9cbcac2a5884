-- The proof of `few_rows_parity` in src/parity.rt.
use Rattle.std.proofs.Common.{◌≡◌, ◌+◌, ◌<◌, ℕ, List, [], length, get_or-take, take, ap, sym, ◌∙◌, subst, arith}
use Rattle.coding.specs.Words.{IsEncoded}
use Rattle.coding.specs.Product.{line}
use Rattle.dvd_block.proofs.parity.few_rows_parity.Goals as goal

pub returns-clause-encoded : goal.returns-clause-encoded
returns-clause-encoded c = λ i below.
    let old = c.args.rows.now in
    let filled = c.with_zeros_below-buffer.result in
    let buffer = c.inner_parity.new.rows in
    let after : c.copy_from_slice.new.self ≡ take (length old) buffer = c.copy_from_slice.ensures.after in
    let inside : i < length old = omega (arith, c.copy_from_slice.ensures.len) in
    let here : 0 + i ≡ i = omega arith in
    let was : line filled i ≡ line old i =
    sym (get_or-take (length old) filled i [] inside) ∙ ap (λ (rows : List (List ℕ)). line rows i) c.with_zeros_below-buffer.ensures.rows in
    let now : line buffer i ≡ line c.copy_from_slice.new.self i =
    sym (ap (λ (rows : List (List ℕ)). line rows i) after ∙ get_or-take (length old) buffer i [] inside) in
    subst (IsEncoded 182 10 (take 172 (line old i))) now
    (subst (λ (row : List ℕ). IsEncoded 182 10 (take 172 row) (line buffer i)) was
    (subst (λ (k : ℕ). IsEncoded 182 10 (take 172 (line filled k)) (line buffer k)) here (c.inner_parity.ensures.encoded i (omega (arith, c.requires)))))
