-- The proof of `copy_sixteen` in src/copying.rt.
use Rattle.std.proofs.Common.{◌≡◌, ℕ, ◌+◌, [], get_or, ◌∙◌, arith}
use Rattle.rs_lanes.proofs.ColumnLemmas.{group_more}
use Rattle.dvd_read.specs.Parts.{answer_bytes}
use Rattle.dvd_read.proofs.copying.copy_sixteen.Goals as goal

pub returns-clause-copied : goal.returns-clause-copied
returns-clause-copied c = λ copied j i d within below.
    let done = c.loop-j.invariant in
    group_more
    (λ (k : ℕ).
    get_or (get_or c.loop-j.piece j d).bytes k 0
    ≡ get_or (get_or (answer_bytes c.args.answers.now) k []) (c.args.start + j) 0)
    c.args.top
    (λ k under. done.below j k d (omega (arith, done.size)) under ∙ copied j k d (omega (arith, done.size)) under)
    (λ n inside.
    done.set j n d (omega (arith, done.size)) inside
    ∙ c.load_transposed-transposed.ensures.transposed j n (omega (arith, done.size)) inside)
    i below
