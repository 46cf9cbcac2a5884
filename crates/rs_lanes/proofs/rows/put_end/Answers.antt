-- The proof of `put_end` in src/rows.rt.
use Rattle.std.proofs.Common.{◌≡◌, ◌+◌, ◌-◌, ◌++◌, length, get_or, take, sym, ap, ◌∙◌, inl, inr, arith, length-append, get_or-take, length-take-le}
use Rattle.std.proofs.lemmas.Bool.{cases_lt}
use Rattle.std.proofs.lemmas.Grind.{same_number_lists}
use Rattle.std.proofs.lemmas.List.{get_or_append_left, get_or-append_right}
use Rattle.coding.specs.Rows.{column}
use Rattle.rs_lanes.proofs.ColumnLemmas.{length-column, get_or-column}
use Rattle.rs_lanes.proofs.rows.put_end.Goals as goal

pub returns : goal.returns
returns c =
    let row = c.loop-k.row in
    let prefix = take 172 c.args.row.now in
    let end = column c.args.parity.now c.args.n in
    let size : length prefix ≡ 172 = length-take-le 172 c.args.row.now (omega arith) in
    let more : length end ≡ 10 = length-column c.args.parity.now c.args.n ∙ omega arith in
    same_number_lists row (prefix ++ end) (omega (arith, c.loop-k.invariant.size, length-append prefix end))
    (λ k below.
    elim (cases_lt k 172) [
      | inl under ↦
          c.loop-k.invariant.prefix k under
          ∙ sym (get_or_append_left prefix end 0 k (omega arith) ∙ get_or-take 172 c.args.row.now k 0 under)
      | inr over ↦
          let whole : 172 + (k - 172) ≡ k = omega arith in
          ap (λ m. get_or row m 0) (sym whole)
          ∙ c.loop-k.invariant.set (k - 172) (omega (arith, c.loop-k.invariant.size))
          ∙ sym (get_or-append_right prefix end 172 k 0 size over ∙ get_or-column c.args.parity.now c.args.n (k - 172))
    ])
