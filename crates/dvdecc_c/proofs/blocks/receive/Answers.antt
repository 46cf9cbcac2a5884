-- The proof of `receive` in src/blocks.rt.
use Rattle.std.proofs.Common.{◌≡◌, subst}
use Rattle.dvd_capture.specs.Fetching.{Fetches}
use Rattle.dvd_capture.specs.Works.{marks_of_work, rows_of}
use Rattle.dvd_capture.specs.declared.capture.FetchAnswer.TheVariants.{Full}
use Rattle.dvd_capture.specs.declared.form.Form.TheVariants.{Marked}
use Rattle.dvd_ports.specs.Memory.{SliceState, slice_seen}
use Rattle.dvdecc_c.proofs.WholeCapture.{answer_is_full, marks_captured, rows_captured, source_of}
use Rattle.dvdecc_c.proofs.blocks.receive.Goals as goal

module _ (c : goal.After-fetch-answer) where
  -- what was read, by the bytes of the capture
  fetches : Fetches Marked (slice_seen (source_of c.args.capture.now)) (slice_seen c.fetch-answer.new.src)
      (rows_of c.fetch-answer.new.work) (marks_of_work c.fetch-answer.new.work) c.fetch-answer.result
  fetches = subst (λ (old : SliceState). Fetches Marked (slice_seen old) (slice_seen c.fetch-answer.new.src)
      (rows_of c.fetch-answer.new.work) (marks_of_work c.fetch-answer.new.work) c.fetch-answer.result) c.new.ensures c.fetch-answer.ensures.fetches

  -- it is a whole block
  full : c.fetch-answer.result ≡ Full
  full = answer_is_full c.args.capture.now c.fetch-answer.new.src _ _ c.fetch-answer.result c.told-capture fetches

pub returns-clause-stage : goal.returns-clause-stage
returns-clause-stage c = c.fetch-answer.ensures.fetched (full c)

pub returns-clause-rows : goal.returns-clause-rows
returns-clause-rows c =
    rows_captured c.args.capture.now c.fetch-answer.new.src (rows_of c.fetch-answer.new.work) (marks_of_work c.fetch-answer.new.work)
    c.told-capture ((fetches c).full (full c))

pub returns-clause-marks : goal.returns-clause-marks
returns-clause-marks c =
    marks_captured c.args.capture.now c.fetch-answer.new.src (rows_of c.fetch-answer.new.work) (marks_of_work c.fetch-answer.new.work)
    c.told-capture ((fetches c).full (full c))
