-- The proof of `totals_with` in src/survey.rt.
use Rattle.std.proofs.Common.{◌≡◌, ◌∙◌, ◌≤◌, cond, false, nat_lt, sym, ap, arith}
use Rattle.std.proofs.lemmas.Bool.{lt-ltb}
use Rattle.std.proofs.lemmas.Bool.Decides.{nat_tests}
use Rattle.dvd_read.proofs.RowAnswers.{as_number}
use Rattle.dvd_report.proofs.Sums.{totals-next}
use Rattle.dvd_report.proofs.survey.totals_with.Goals as goal
use Rattle.dvd_report.proofs.survey.totals_with.Goals.{then-sum-totals, else-sum-totals}

pub returns-clause-totals : goal.returns-clause-totals
returns-clause-totals c blocks is sum_is =
    let totals = c.args.totals.now in
    let at_is : c.if-sum-totals.result ≡ cond (nat_lt totals.peak c.args.sum) totals.blocks totals.peak_at = elim c.if-sum-totals.branch [
      | then-sum-totals w ↦ w.result-is ∙ sym (ap (λ test. cond test totals.blocks totals.peak_at) (lt-ltb totals.peak c.args.sum w.if-sum-totals.true))
      | else-sum-totals w ↦
          let past : c.args.sum ≤ totals.peak = w.if-sum-totals.false in
          let not_less : nat_lt totals.peak c.args.sum ≡ false = grind (arith, nat_tests) in
          w.result-is ∙ sym (ap (λ test. cond test totals.blocks totals.peak_at) not_less)
    ] in
    rw (c.from.ensures, c.from-2.ensures, c.from-3.ensures, c.is_some.ensures, c.from-4.ensures, c.max.ensures, as_number, as_number)
    (totals-next totals blocks c.args.block.now c.args.sum c.if-sum-totals.result is sum_is at_is)
