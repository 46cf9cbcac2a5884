-- The proof of `count_pi_rows` in src/errors.rt.
use Rattle.std.proofs.Common.{◌≡◌, ◌∙◌, length, sym, ap, subst, arith, All}
use Rattle.coding.specs.Words.{IsByte}
use Rattle.coding.specs.Product.{line}
use Rattle.dvd_capture.specs.Answers.{marks_line}
use Rattle.dvd_capture.specs.Rule.{HasAnswers, HasBlock}
use Rattle.dvd_capture.specs.Works.{marks_of_work, rows_of, stage_of}
use Rattle.dvd_capture.specs.declared.stage.Stage.{Stage}
use Rattle.dvd_capture.specs.declared.stage.Stage.TheVariants.{Empty, Fetched, Refused, Fixed}
use Rattle.dvd_capture.proofs.WorkParts.{marks-width}
use Rattle.dvd_read.proofs.RowAnswers.{as_number, flag_small}
use Rattle.dvd_report.specs.Survey.{has_pi_error}
use Rattle.dvd_report.proofs.RowCounts.{errors-next, flag-pi_error, pi_rows-counted}
use Rattle.dvd_report.proofs.errors.count_pi_rows.Goals as goal

-- where there are answers there is a block
answered-block : (stage : Stage) → HasAnswers stage → HasBlock stage
answered-block Empty has = has
answered-block Fetched has = tt
answered-block Refused has = tt
answered-block Fixed has = tt

pub row-requires-clause-stage : goal.row-requires-clause-stage
row-requires-clause-stage c = answered-block (stage_of c.args.work.now) c.requires

pub loop-i-preserved : goal.loop-i-preserved
loop-i-preserved c =
    let work = c.args.work.now in
    let i = c.loop-i.i in
    let rows = rows_of work in
    let marks = marks_of_work work in
    let bytes : All IsByte (line rows i) = subst (All IsByte) c.row.ensures c.prove_row.ensures.bytes in
    let width : length (line rows i) ≡ 182 = sym (ap length c.row.ensures) ∙ c.prove_row.ensures.size in
    let flag : c.has_pi_error.result ≡ has_pi_error (line rows i) (marks_line marks i) =
    flag-pi_error (line rows i) (marks_line marks i) c.answer.result c.has_pi_error.result width (marks-width work.marks i (omega arith)) bytes
    c.answer.ensures.failed c.answer.ensures.fix c.has_pi_error.ensures.failed c.has_pi_error.ensures.answered in
    record {
      counted = errors-next rows marks i c.loop-i.count c.from-count.result c.has_pi_error.result c.loop-i.invariant.counted c.from-count.ensures flag;
      few = omega (arith, c.loop-i.invariant.few, c.from-count.ensures, as_number c.has_pi_error.result, flag_small c.has_pi_error.result);
    }

pub returns : goal.returns
returns c = pi_rows-counted (rows_of c.args.work.now) (marks_of_work c.args.work.now) c.loop-i.count c.loop-i.i (omega arith) c.loop-i.invariant.counted
