-- The proof of `write_runs` in src/listed.rt.
use Rattle.dvd_capture.proofs.ListedWritten.{list-begun, list-written, on_err-map, on_ok-map}
use Rattle.dvd_capture.proofs.listed.write_runs.Goals as goal

pub returns-clause-written : goal.returns-clause-written
returns-clause-written g c = λ before size.
    on_ok-map c.write_whole.result _ _ (list-written before _ _ _ _ _ (c.list_runs.ensures before size) c.as_slice.ensures.value) c.write_whole.ensures.written

pub returns-clause-begun : goal.returns-clause-begun
returns-clause-begun g c = λ before size.
    on_err-map c.write_whole.result _ _ (list-begun before _ _ _ _ _ (c.list_runs.ensures before size) c.as_slice.ensures.value) c.write_whole.ensures.begun
