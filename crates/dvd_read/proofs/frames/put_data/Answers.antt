-- The proof of `put_data` in src/frames.rt.
use Rattle.std.proofs.Common.{◌≡◌, ◌∙◌, ◌+◌, ◌-◌, ◌*◌, ◌<◌, ◌++◌, ℕ, length, get_or, get_or-take, length-append, length-take-le, take, sym, ap, inl, inr, arith}
use Rattle.std.proofs.lemmas.Bool.{cases_lt}
use Rattle.std.proofs.lemmas.Grind.{same_number_lists}
use Rattle.std.proofs.lemmas.List.{get_or_append_left, get_or-append-add}
use Rattle.rs_lanes.proofs.ColumnLemmas.{group_more}
use Rattle.dvd_read.proofs.frames.put_data.Goals as goal

pub loop-piece-preserved : goal.loop-piece-preserved
loop-piece-preserved c =
    let done = c.loop-piece.invariant in
    let at = c.args.at in
    let from = 32 * c.loop-piece.piece in
    record {
      size = c.store.ensures.size ∙ done.size;
      before = λ k below. c.store.ensures.below k (omega arith) ∙ done.before k below;
      copied = λ j within.
          group_more (λ (m : ℕ). get_or c.store.new.row (at + m) 0 ≡ get_or c.args.row.now m 0) from
          (λ m under. c.store.ensures.below (at + m) (omega arith) ∙ done.copied m under)
          (λ k few.
          let same : at + (from + k) ≡ at + from + k = omega arith in
          ap (λ m. get_or c.store.new.row m 0) same ∙ c.store.ensures.set k few ∙ c.load.ensures.each k few)
          j (omega arith);
    }

pub returns-clause-prefix : goal.returns-clause-prefix
returns-clause-prefix c =
    let done = c.loop-piece.invariant in
    let at = c.args.at in
    let old = c.args.frame.now in
    let new = c.store-2.new.row in
    let row = c.args.row.now in
    let long : length new ≡ 2064 = c.store-2.ensures.size ∙ done.size in
    let front : length (take at old) ≡ at = length-take-le at old (omega arith) in
    let body : length (take 172 row) ≡ 172 = length-take-le 172 row (omega arith) in
    let all : length (take (at + 172) new) ≡ at + 172 = length-take-le (at + 172) new (omega (arith, long)) in
    let copied : (j : ℕ) → j < 172 → get_or new (at + j) 0 ≡ get_or row j 0 = λ j within.
    group_more (λ (m : ℕ). get_or new (at + m) 0 ≡ get_or row m 0) 140
    (λ m under. c.store-2.ensures.below (at + m) (omega arith) ∙ done.copied m (omega arith))
    (λ k few.
    let same : at + (140 + k) ≡ at + 140 + k = omega arith in
    ap (λ m. get_or new m 0) same ∙ c.store-2.ensures.set k few ∙ c.load-2.ensures.each k few)
    j within in
    same_number_lists (take (at + 172) new) (take at old ++ take 172 row) (all ∙ sym (length-append (take at old) (take 172 row) ∙ (λ i. front i + body i)))
    (λ k inside.
    let within : k < at + 172 = omega (arith, all) in
    get_or-take (at + 172) new k 0 within
    ∙ elim (cases_lt k at) [
      | inl below ↦
          c.store-2.ensures.below k (omega arith) ∙ done.before k below
          ∙ sym (get_or_append_left (take at old) (take 172 row) 0 k (omega (arith, front)) ∙ get_or-take at old k 0 below)
      | inr over ↦
          let whole : at + (k - at) ≡ k = omega arith in
          let past : length (take at old) + (k - at) ≡ k = omega (arith, front) in
          ap (λ m. get_or new m 0) (sym whole) ∙ copied (k - at) (omega arith)
          ∙ sym (ap (λ m. get_or (take at old ++ take 172 row) m 0) (sym past) ∙ get_or-append-add (take at old) (take 172 row) (k - at) 0
          ∙ get_or-take 172 row (k - at) 0 (omega arith))
    ])
