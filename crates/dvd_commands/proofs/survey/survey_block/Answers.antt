-- The proof of `survey_block` in src/survey.rt.
use Rattle.std.proofs.Common.{◌≡◌, ◌∙◌, ◌-◌, List, [], ◌∷◌, ◌++◌, length, length-append, refl, ap, arith}
use Rattle.dvd_capture.specs.Works.{marks_of_work, rows_of}
use Rattle.dvd_loop.proofs.UnitLemmas.{err_is, write_begun, write_done}
use Rattle.dvd_decoding.specs.Reading.{block_cause}
use Rattle.dvd_report.specs.Survey.{surveyed}
use Rattle.dvd_report.specs.declared.counts.Surveyed.{Surveyed}
use Rattle.dvd_commands.specs.Survey.{kind_by}
use Rattle.dvd_commands.proofs.survey.Blocks.{cause_is, stands_more}
use Rattle.dvd_commands.proofs.survey.survey_block.Goals as goal

-- the number of the last block's line is how many came before it
last_is : (blocks : List Surveyed) (block : Surveyed) → length (blocks ++ block ∷ []) - 1 ≡ length blocks
last_is blocks block = let size = length-append blocks (block ∷ []) in omega arith

pub returns-in_err-write_line-clause-survey : goal.returns-in_err-write_line-clause-survey
returns-in_err-write_line-clause-survey g c = λ blocks is_there.
    let r = c.read_by-answer in
    stands_more _ c.args.work.now r.new.work c.args.entry.now _ blocks (c.add.ensures.added blocks is_there) r.ensures.received r.ensures.marks r.ensures.right r.ensures.refused

pub returns-in_err-write_line-clause-done : goal.returns-in_err-write_line-clause-done
returns-in_err-write_line-clause-done g c = λ source report blocks is_there.
    let block = surveyed (rows_of c.args.work.now) (marks_of_work c.args.work.now) c.args.entry.now in
    let r = c.read_by-answer in
    let begun = c.in_err-write_line.ensures.begun (blocks ++ block ∷ [])
    (stands_more _ c.args.work.now r.new.work c.args.entry.now _ blocks (c.add.ensures.added blocks is_there) r.ensures.received r.ensures.marks r.ensures.right r.ensures.refused) in
    write_begun _ _ _ (record { writes = refl; answers = refl }) _ _ _ _ _ (err_is _ _ c.from_residual.ensures.1) (rw (last_is blocks block) at begun) c.in_err-write_line.ensures.cause.failed

pub returns-clause-survey : goal.returns-clause-survey
returns-clause-survey g c = λ blocks is_there.
    let r = c.read_by-answer in
    stands_more _ c.args.work.now r.new.work c.args.entry.now _ blocks (c.add.ensures.added blocks is_there) r.ensures.received r.ensures.marks r.ensures.right r.ensures.refused

pub returns-clause-done : goal.returns-clause-done
returns-clause-done g c = λ source report blocks is_there.
    let rows = rows_of c.args.work.now in
    let marks = marks_of_work c.args.work.now in
    let block = surveyed rows marks c.args.entry.now in
    let r = c.read_by-answer in
    let answers = c.kind_of.ensures ∙ ap kind_by (cause_is r.result (block_cause rows marks c.args.entry.now) r.ensures.right r.ensures.refused) in
    let written = c.in_ok-write_line.ensures.written (blocks ++ block ∷ [])
    (stands_more _ c.args.work.now r.new.work c.args.entry.now _ blocks (c.add.ensures.added blocks is_there) r.ensures.received r.ensures.marks r.ensures.right r.ensures.refused) in
    write_done _ _ _ (record { writes = refl; answers = answers }) _ _ _ _ (rw (last_is blocks block) at written) c.in_ok-write_line.ensures.cause.steady
