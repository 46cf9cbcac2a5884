-- The proof of `rows_changed` in src/kept.rt.
use Rattle.std.proofs.Common.{◌/◌, arith}
use Rattle.dvd_read.proofs.kept.rows_changed.Goals as goal

pub returns-clause-zeros : goal.returns-clause-zeros
returns-clause-zeros c = λ n below.
    let says = c.any_of.ensures.zeros n below in (
      (λ none j d from under.
          (c.loop-tile.invariant.set (j / 16) n (omega arith) below).0 (says.0 none (j / 16) (omega arith)) j d (omega arith) (omega arith)),
      (λ kept. says.1 (λ t few. (c.loop-tile.invariant.set t n (omega arith) below).1 (λ j d from under. kept j d (omega arith) (omega arith)))),
    )
