-- The proof of `FrameWork::put` in src/frame.rt.
use Rattle.std.proofs.Common.{◌∙◌, Bool, List, ◌+◌, set, sym, ap, subst, take, arith}
use Rattle.std.proofs.lemmas.List.{map-set}
use Rattle.dvd_capture.specs.Captured.{marks_in}
use Rattle.dvd_capture.specs.Parts.{marks_of_row}
use Rattle.dvd_assemble.specs.Works.{frame_marks, frame_rows}
use Rattle.dvd_assemble.proofs.Reading.{IsPartlyPut, all_put, record_cut, row_put}
use Rattle.dvd_assemble.proofs.frame.FrameWork.put.Goals as goal

pub loop-q-preserved : goal.loop-q-preserved
loop-q-preserved c =
    let cut = record_cut c.args.form c.args.bytes.now c.record_size-size.result c.loop-q.q c.record_size-size.ensures in
    subst (λ (marks : List (List Bool)). IsPartlyPut c.args.form c.args.bytes.now (set (frame_rows c.loop-q.self) c.loop-q.q c.put_row.new.row) marks (c.loop-q.q + 1))
    (sym (map-set marks_of_row c.loop-q.self.marks c.loop-q.q c.put_row.new.marks))
    (row_put c.args.form c.args.bytes.now c.put_row.new.row (marks_of_row c.put_row.new.marks) (frame_rows c.loop-q.self) (frame_marks c.loop-q.self) c.loop-q.q
    c.loop-q-test.true c.loop-q.invariant (c.put_row.ensures.row ∙ ap (take 182) cut) (c.put_row.ensures.marks ∙ ap (marks_in c.args.form) cut))

pub returns : goal.returns
returns c =
    all_put c.args.form c.args.bytes.now (frame_rows c.loop-q.self) (frame_marks c.loop-q.self)
    (subst (IsPartlyPut c.args.form c.args.bytes.now (frame_rows c.loop-q.self) (frame_marks c.loop-q.self)) (omega arith) c.loop-q.invariant)
