-- The proof of `tile_changed` in src/kept.rt.
use Rattle.std.proofs.Common.{◌≡◌, ◌+◌, ◌-◌, [], get_or, ◌∙◌, sym, subst, arith}
use Rattle.dvd_read.specs.Parts.{answer_bytes}
use Rattle.dvd_read.proofs.ColumnAnswers.{blank_column}
use Rattle.dvd_read.proofs.kept.tile_changed.Goals as goal

pub returns-clause-zeros : goal.returns-clause-zeros
returns-clause-zeros c = λ n below.
    let at = c.args.at in
    let i = c.args.top + n in
    let says = c.any_of.ensures.zeros n below in (
      (λ none j d from under.
          let k = j - at in
          let here : at + k ≡ j = omega arith in
          subst (λ m. get_or (get_or c.args.columns.now m d).bytes i 0 ≡ get_or (get_or (answer_bytes c.args.answers.now) i []) m 0) here
          ((c.loop-j.invariant.set k n d (omega arith) below).0 (says.0 none k (omega arith)) ∙ c.load_transposed-transposed.ensures.transposed k n (omega arith) below)),
      (λ kept. says.1 (λ k few.
          (c.loop-j.invariant.set k n blank_column (omega arith) below).1
          (kept (at + k) blank_column (omega arith) (omega arith) ∙ sym (c.load_transposed-transposed.ensures.transposed k n few below)))),
    )
