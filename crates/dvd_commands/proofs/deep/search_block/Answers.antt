-- The proof of `search_block` in src/deep.rt.
use Rattle.std.proofs.Common.{◌∙◌, sym}
use Rattle.dvd_block.specs.Buffers.{piece_bytes}
use Rattle.dvd_capture.proofs.WorkParts.{marks-height, rows-height}
use Rattle.dvd_capture.specs.Works.{marks_of_work, rows_of}
use Rattle.dvd_deep.specs.Deeps.{rows_of_deep}
use Rattle.dvd_deep.proofs.Readings.{cause-found, cause-unfound}
use Rattle.dvd_commands.proofs.deep.Blocks.{found_by}
use Rattle.dvd_commands.proofs.deep.search_block.Goals as goal

pub returns-in_default-clause-refused : goal.returns-in_default-clause-refused
returns-in_default-clause-refused c =
    let work = c.args.work.now in
    cause-unfound (rows_of work) (marks_of_work work) c.args.entry.now (sym c.in_default.ensures.round) ∙ c.requires.refused

pub returns-in-Ok-clause-found : goal.returns-in-Ok-clause-found
returns-in-Ok-clause-found c = λ layout.
    let work = c.args.work.now in
    found_by layout c.args.entry.now (rows_of work) (marks_of_work work) (rows_of_deep c.search.new.self) (piece_bytes c.sectors.new.out) c.in-Some.round c.args.cause
    (rows-height work.received) (marks-height work.marks) c.requires.refused (sym c.in-Some.ensures.round) c.in-Some.ensures.block c.in-Ok.ensures.right c.in-Ok.ensures.main

pub returns-in-Err-clause-refused : goal.returns-in-Err-clause-refused
returns-in-Err-clause-refused c =
    let work = c.args.work.now in
    cause-found (rows_of work) (marks_of_work work) c.args.entry.now (rows_of_deep c.search.new.self) c.in-Some.ensures.block ∙ c.in-Err.ensures.refused
