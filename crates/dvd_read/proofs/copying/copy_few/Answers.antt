-- The proof of `copy_few` in src/copying.rt.
use Rattle.std.proofs.Common.{◌≡◌, ℕ, ◌+◌, ◌-◌, [], get_or, ap, ◌∙◌, arith}
use Rattle.rs_lanes.proofs.ColumnLemmas.{group_more}
use Rattle.dvd_read.specs.Parts.{answer_bytes}
use Rattle.dvd_read.proofs.copying.copy_few.Goals as goal

pub returns-clause-copied : goal.returns-clause-copied
returns-clause-copied c = λ copied j i d within below.
    let done = c.loop-j.invariant in
    group_more (λ (k : ℕ). get_or (get_or c.loop-j.piece j d).bytes k 0 ≡ get_or (get_or (answer_bytes c.args.answers.now) k []) (c.args.start + j) 0) c.args.top
    (λ k under. done.below j k d (omega arith) under ∙ copied j k d (omega arith) under)
    (λ n inside.
    let place : c.min-at.result + (c.args.start - c.min-at.result + j) ≡ c.args.start + j = omega arith in
    done.set j n d (omega arith) inside ∙ c.load_transposed-transposed.ensures.transposed (c.args.start - c.min-at.result + j) n (omega arith) inside
    ∙ ap (λ (p : ℕ). get_or (get_or (answer_bytes c.args.answers.now) (c.args.top + n) []) p 0) place)
    i below
