-- The proof of `field` in src/runs.rt.
use Rattle.std.proofs.Common.{◌+◌, ◌-◌, ◌∙◌, ap, arith, slice_range}
use Rattle.dvd_capture.specs.Listed.{field_at}
use Rattle.dvd_capture.proofs.ListedPieces.{field_at-piece, zero_more}
use Rattle.dvd_capture.proofs.ListedTaken.{field-number}
use Rattle.dvd_capture.proofs.runs.field.Goals as goal

pub returns-clause-value : goal.returns-clause-value
returns-clause-value c =
    let fields = c.args.fields.now in
    let offset = c.args.offset in
    c.from.ensures ∙ c.read_u16.ensures ∙ field-number (slice_range fields offset (offset + 2))
    ∙ field_at-piece fields offset (offset + 2 - offset) 0 (omega arith) ∙ ap (field_at fields) (zero_more offset)
