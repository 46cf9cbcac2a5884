-- The proof of `read_received` in src/reading.rt.
use Rattle.std.proofs.Common.{sym, ap, ◌∙◌}
use Rattle.std.specs.declared.option.Option.{Option}
use Rattle.dvd_capture.proofs.WorkParts.{marks-height, rows-height}
use Rattle.dvd_capture.specs.Works.{marks_of_work, rows_of, sectors_of}
use Rattle.dvd_decoding.specs.declared.cause.Cause.{Cause}
use Rattle.dvd_decoding.specs.Frames.{main_data}
use Rattle.dvd_decoding.specs.Reading.{block_in}
use Rattle.dvdecc_c.specs.Blocks.{block_or}
use Rattle.dvdecc_c.proofs.SectorsRead.{sectors-read}
use Rattle.dvdecc_c.proofs.reading.read_received.Goals as goal

pub returns-in-Ok-clause-sectors : goal.returns-in-Ok-clause-sectors
returns-in-Ok-clause-sectors c =
    let rows = rows_of c.args.work.now in
    let marks = marks_of_work c.args.work.now in
    let main = main_data (block_in rows marks) c.args.plan.now in
    c.put_sectors.ensures
    ∙ sectors-read rows marks c.args.plan.now (sectors_of c.read_block.new.work) (rows-height c.args.work.now.received) (marks-height c.args.work.now.marks) c.in-Ok.ensures.read
    ∙ sym (ap (λ (cause : Option Cause). block_or cause main c.args.sectors.now) c.in-Ok.ensures.right)
