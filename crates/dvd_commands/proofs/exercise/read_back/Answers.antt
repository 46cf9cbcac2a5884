-- The proof of `read_back` in src/exercise.rt.
use Rattle.std.proofs.Common.{◌≡◌, ◌∙◌, ◌+◌, true, None, Some, IfErr, sym, ap, subst}
use Rattle.dvd_capture.specs.Works.{marks_of_work, rows_of}
use Rattle.coding.specs.Found.{block_differences}
use Rattle.dvd_decoding.specs.Reading.{block_cause}
use Rattle.dvd_commands.specs.Inner.Exercising.{are_sectors}
use Rattle.dvd_commands.proofs.exercise.Trials.{same_sectors}
use Rattle.dvd_commands.proofs.exercise.read_back.Goals as goal

pub returns-in-Ok-clause-counted : goal.returns-in-Ok-clause-counted
returns-in-Ok-clause-counted g c = λ same.
    let whole : c.has_sectors.result ≡ true = c.has_sectors.ensures ∙ ap (λ s. are_sectors s c.args.image.now) same ∙ same_sectors c.args.image.now in record {
      whole = c.add.ensures.whole whole;
      fixed =
          c.add.ensures.fixed
          ∙ ap (λ n. c.args.counts.now.fixed + n) (c.in-Ok.ensures.bytes ∙ ap (block_differences (rows_of c.args.work.now)) c.in-Ok.ensures.block);
      failed = c.add.ensures.failed ∙ ap (λ n. c.args.counts.now.failed + n) c.in-Ok.ensures.failed_rows;
    }

pub returns-in_default-clause-counted : goal.returns-in_default-clause-counted
returns-in_default-clause-counted g c = λ same.
    let cause : block_cause (rows_of c.args.work.now) (marks_of_work c.args.work.now) c.args.entry.now ≡ Some c.in_default.field-0 =
    subst (λ r. IfErr r (λ cause. block_cause (rows_of c.args.work.now) (marks_of_work c.args.work.now) c.args.entry.now ≡ Some cause)) c.in_default.is c.read_by.ensures.refused in
    absurd (let no : None ≡ Some c.in_default.field-0 = sym c.requires.right ∙ cause in cc)
