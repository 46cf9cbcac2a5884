-- The proof of `write_unit` in src/listed.rt.
use Rattle.dvd_block.proofs.Recorded.{on_err}
use Rattle.dvd_capture.proofs.ListedWritten.{on_err-map, on_ok-map, recording_size, rows-begun, runs-begun, unit-written}
use Rattle.dvd_capture.proofs.listed.write_unit.Goals as goal

pub returns-clause-written : goal.returns-clause-written
returns-clause-written g c =
    on_ok-map c.write_runs.result _ _
    (unit-written c.args.rows.now c.requires c.told-rows c.args.marks.now _ _ _ c.in_ok-write_rows.ensures.written)
    (c.write_runs.ensures.written _ (recording_size c.args.rows.now c.requires c.told-rows))

pub returns-clause-begun : goal.returns-clause-begun
returns-clause-begun g c =
    on_err-map c.write_runs.result _ _
    (runs-begun c.args.rows.now c.requires c.told-rows c.args.marks.now _ _ _ c.in_ok-write_rows.ensures.written)
    (c.write_runs.ensures.begun _ (recording_size c.args.rows.now c.requires c.told-rows))

pub returns-in_err-write_rows-clause-begun : goal.returns-in_err-write_rows-clause-begun
returns-in_err-write_rows-clause-begun g c =
    on_err c.from_residual.result _
    (rows-begun c.args.rows.now c.requires c.told-rows c.args.marks.now _ _ c.in_err-write_rows.ensures.begun)
