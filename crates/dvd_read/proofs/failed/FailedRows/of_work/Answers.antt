-- The proof of `of_work` in src/failed.rt.
use Rattle.std.proofs.Common.{◌∙◌, ap}
use Rattle.coding.specs.TwoPass.{failed_of}
use Rattle.dvd_read.proofs.HeldAnswers.{words}
use Rattle.dvd_read.proofs.failed.FailedRows.of_work.Goals as goal

pub returns : goal.returns
returns c = c.of.ensures ∙ ap failed_of (words c.args.work.now c.rows.result.now c.rows.ensures.rows c.requires)
