-- The proof of `lose_rows` in src/damage.rt.
use Rattle.std.proofs.Common.{◌≢◌, ℕ, ◌+◌, ◌<◌, true, [], replicate, refl, arith}
use Rattle.dvd_capture.specs.Works.{marks_of_work, rows_of}
use Rattle.dvd_capture.proofs.WorkParts.{marks-height, rows-height}
use Rattle.dvd_exercise.specs.Damage.{damaged_row}
use Rattle.dvd_exercise.proofs.Changed.{changed_next}
use Rattle.dvd_exercise.proofs.Rows.{damaged_row-new}
use Rattle.dvd_exercise.proofs.Works.{rest-then}
use Rattle.dvd_exercise.proofs.damage.lose_rows.Goals as goal

pub loop-t-preserved : goal.loop-t-preserved
loop-t-preserved c =
    let old = c.args.work.now in
    let start : ℕ = c.args.plan.now.start in
    let bad : ℕ = c.args.plan.now.bad in
    let t : ℕ = c.loop-t.t in
    let new : (k : ℕ) → k < t → damaged_row start (bad + k) ≢ damaged_row start (bad + t) =
    λ k below. damaged_row-new start (bad + t) (bad + k) (omega (arith, c.args.plan.now.bound)) (omega (arith, below)) in
    record {
      rows = changed_next [] t (λ k. damaged_row start (bad + k)) (λ _. replicate 182 0) (rows_of old) (rows_of c.loop-t.work) (rows_of c.lose_row.new.work) c.row.result _
          new c.loop-t.invariant.rows c.row.ensures.row (omega (arith, rows-height old.received, c.row.ensures.below)) c.lose_row.ensures.received (λ _. refl);
      marks = changed_next [] t (λ k. damaged_row start (bad + k)) (λ _. replicate 182 true) (marks_of_work old) (marks_of_work c.loop-t.work) (marks_of_work c.lose_row.new.work) c.row.result _
          new c.loop-t.invariant.marks c.row.ensures.row (omega (arith, marks-height old.marks, c.row.ensures.below)) c.lose_row.ensures.marks (λ _. refl);
      rest = rest-then old c.loop-t.work c.lose_row.new.work c.loop-t.invariant.rest c.lose_row.ensures.rest;
    }
