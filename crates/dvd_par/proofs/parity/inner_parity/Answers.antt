-- The proof of `inner_parity` in src/parity.rt.
use Rattle.std.proofs.Common.{◌≡◌, ℕ, List, [], ◌++◌, length, take, sym, ◌∙◌, ap, subst, arith}
use Rattle.std.proofs.lemmas.List.{get_or_append_left, length-append}
use Rattle.coding.specs.Words.{IsEncoded}
use Rattle.dvd_block.specs.Buffers.{lines_rows}
use Rattle.coding.specs.Product.{line}
use Rattle.dvd_block.proofs.RowParts.{lent_whole}
use Rattle.dvd_par.proofs.parity.inner_parity.Goals as goal

pub returns : goal.returns
returns g c = λ i above.
    let was : List (List ℕ) = c.split_at_mut-upper.result.0.now in
    let upper : List (List ℕ) = c.row_pieces.new.rows in
    let lower : List (List ℕ) = c.split_at_mut-upper.result.1.now in
    let old : List (List ℕ) = c.args.lines.now.rows.items in
    let size : length upper ≡ 192 = omega (arith, c.split_at_mut-upper.ensures.front_len) in
    let height : length (upper ++ lower) ≡ c.args.lines.now.rows.len =
    omega (arith, length-append upper lower, c.split_at_mut-upper.ensures.back_len, c.rows_mut.ensures.size, c.args.lines.now.size) in
    let now_is : line upper i ≡ line (take c.args.lines.now.rows.len ((upper ++ lower) ++ _)) i =
    sym (ap (λ (b : List (List ℕ)). line b i) (lent_whole c.args.lines.now.rows.len old (upper ++ lower) height) ∙ get_or_append_left upper lower [] i (omega arith)) in
    let was_is : line was i ≡ line (lines_rows c.args.lines.now) i =
    sym (ap (λ (b : List (List ℕ)). line b i) (sym c.rows_mut.ensures.rows ∙ c.split_at_mut-upper.ensures.value) ∙ get_or_append_left was lower [] i (omega (arith, c.split_at_mut-upper.ensures.front_len))) in
    subst (IsEncoded 182 10 (take 172 (line (lines_rows c.args.lines.now) i))) now_is
    (subst (λ (row : List ℕ). IsEncoded 182 10 (take 172 row) (line upper i)) was_is (c.row_pieces.ensures i (omega arith)))
