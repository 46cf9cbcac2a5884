-- The proof of `put_record` in src/capture.rt.
use Rattle.std.proofs.Common.{sym, arith}
use Rattle.std.proofs.lemmas.List.{length-take-le}
use Rattle.dvd_capture.specs.Parts.{received_bytes}
use Rattle.dvd_capture.proofs.MarkedPlaces.{later_kept}
use Rattle.dvd_capture.proofs.capture.put_record.Goals as goal

pub slice_bounds-set_row-end : goal.slice_bounds-set_row-end
slice_bounds-set_row-end c = sym (length-take-le 182 c.args.bytes.now (omega (arith, c.requires.size)))

pub set_row-requires-clause-size : goal.set_row-requires-clause-size
set_row-requires-clause-size c = length-take-le 182 c.args.bytes.now (omega (arith, c.requires.size))

pub returns-clause-later : goal.returns-clause-later
returns-clause-later c = λ k more few.
    later_kept (received_bytes c.args.received.now) (received_bytes c.set_row.new.self) c.args.m k c.row_of_record-i.result more few
    c.row_of_record-i.ensures.value c.set_row.ensures.front c.set_row.ensures.rest
