-- The proof of `combine_rows` in src/damage.rt.
use Rattle.std.proofs.Common.{◌≡◌, ◌∙◌, ℕ, ◌+◌, ◌*◌, [], sym, ap, arith}
use Rattle.coding.specs.Product.{line}
use Rattle.dvd_capture.specs.Works.{rows_of}
use Rattle.dvd_capture.proofs.WorkParts.{rows-height}
use Rattle.dvd_exercise.specs.Damage.{combined, damaged_row}
use Rattle.dvd_exercise.specs.Generator.{state_after, state_of}
use Rattle.dvd_exercise.proofs.Changed.{changed_next, changed_none}
use Rattle.dvd_exercise.proofs.Draws.{state-add, state_none}
use Rattle.dvd_exercise.proofs.Rows.{damaged_row-new}
use Rattle.dvd_exercise.proofs.Works.{but_bytes-same, but_bytes-then}
use Rattle.dvd_exercise.proofs.damage.combine_rows.Goals as goal

pub loop-turn-init : goal.loop-turn-init
loop-turn-init c = record {
  rows = changed_none [] (damaged_row c.args.plan.now.start) (λ t. combined (state_after (state_of c.args.rand.now) (182 * t)) (line (rows_of c.args.work.now) (damaged_row c.args.plan.now.start t))) (rows_of c.args.work.now);
  drawn = sym (state_none (state_of c.args.rand.now));
  rest = but_bytes-same c.args.work.now c.requires.stage;
}

pub loop-turn-preserved : goal.loop-turn-preserved
loop-turn-preserved c =
    let rows = rows_of c.args.work.now in
    let y : ℕ = state_of c.args.rand.now in
    let start : ℕ = c.args.plan.now.start in
    let t : ℕ = c.loop-turn.turn in
    let before : state_of c.loop-turn.rand ≡ state_after y (182 * t) = c.loop-turn.invariant.drawn in
    let count : 182 * t + 182 ≡ 182 * (t + 1) = omega arith in record {
      rows = changed_next [] t (damaged_row start) (λ t. combined (state_after y (182 * t)) (line rows (damaged_row start t))) rows (rows_of c.loop-turn.work) (rows_of c.combine_row.new.work) c.row.result _
          (λ k below. damaged_row-new start t k (omega arith) below) c.loop-turn.invariant.rows c.row.ensures.row (omega (arith, rows-height c.args.work.now.received, c.row.ensures.below))
          c.combine_row.ensures.received
          (λ same. ap (λ (x : ℕ). combined x (line (rows_of c.loop-turn.work) c.row.result)) before ∙ ap (combined (state_after y (182 * t))) (same ∙ ap (line rows) c.row.ensures.row));
      drawn = c.combine_row.ensures.drawn ∙ ap (λ (x : ℕ). state_after x 182) before ∙ state-add y (182 * t) 182 ∙ ap (state_after y) count;
      rest = but_bytes-then c.args.work.now c.loop-turn.work c.combine_row.new.work c.loop-turn.invariant.rest c.combine_row.ensures.rest;
    }
