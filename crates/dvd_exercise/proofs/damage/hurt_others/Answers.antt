-- The proof of `hurt_others` in src/damage.rt.
use Rattle.std.proofs.Common.{◌≡◌, ◌∙◌, ℕ, ◌+◌, true, false, sym, ap, subst}
use Rattle.coding.specs.Product.{line}
use Rattle.dvd_capture.specs.Works.{rows_of}
use Rattle.dvd_exercise.specs.Damage.{HasErrors, drawn_errors, is_hit}
use Rattle.dvd_exercise.specs.Generator.{state_after, state_of}
use Rattle.dvd_exercise.specs.Inner.Kept.{KeepsAllButBytes}
use Rattle.dvd_exercise.proofs.Rows.{AreHurtBelow, hurt-errors, hurt-hit, hurt_none, state-errors, state-hit, state_first}
use Rattle.dvd_exercise.proofs.Works.{but_bytes-same, but_bytes-then}
use Rattle.dvd_exercise.proofs.damage.hurt_others.Goals as goal
use Rattle.dvd_exercise.proofs.damage.hurt_others.Goals.{then-not-hits, else-not-hits}

pub loop-row-init : goal.loop-row-init
loop-row-init c = record {
  rows = hurt_none c.args.plan.now.start (c.args.plan.now.bad + c.args.plan.now.lost) (state_of c.args.rand.now) (rows_of c.args.work.now);
  drawn = sym (state_first c.args.plan.now.start (c.args.plan.now.bad + c.args.plan.now.lost) (state_of c.args.rand.now));
  rest = but_bytes-same c.args.work.now c.requires.stage;
}

pub loop-row-preserved : goal.loop-row-preserved
loop-row-preserved c =
    let start : ℕ = c.args.plan.now.start in
    let n : ℕ = c.args.plan.now.bad + c.args.plan.now.lost in
    let y : ℕ = state_of c.args.rand.now in
    let rows = rows_of c.args.work.now in
    let row : ℕ = c.loop-row.row in
    elim c.if-not-hits.branch [
      | then-not-hits w ↦
          let miss : is_hit start n row ≡ false = sym c.hits.ensures ∙ w.if-not-hits.true in
          let is = ap rows_of w.work-is in record {
            rows = subst (λ next. AreHurtBelow start n y rows next (row + 1)) (sym is)
                (hurt-errors start n y rows (rows_of c.loop-row.work) row c.loop-row.invariant.rows (rows_of w.hurt_row.new.work) miss w.hurt_row.ensures.others
                (subst (λ x. HasErrors x (line (rows_of c.loop-row.work) row) (line (rows_of w.hurt_row.new.work) row)) c.loop-row.invariant.drawn w.hurt_row.ensures.received));
            drawn = ap state_of w.rand-is ∙ w.hurt_row.ensures.drawn ∙ ap (λ (x : ℕ). state_after x (2 + drawn_errors x)) c.loop-row.invariant.drawn ∙ sym (state-errors start n y row miss);
            rest = subst (KeepsAllButBytes c.args.work.now) (sym w.work-is)
                (but_bytes-then c.args.work.now c.loop-row.work w.hurt_row.new.work c.loop-row.invariant.rest w.hurt_row.ensures.rest);
          }
      | else-not-hits w ↦
          let hit : is_hit start n row ≡ true = sym c.hits.ensures ∙ w.if-not-hits.false in record {
            rows = subst (λ next. AreHurtBelow start n y rows next (row + 1)) (sym (ap rows_of w.work-is))
                (hurt-hit start n y rows (rows_of c.loop-row.work) row c.loop-row.invariant.rows hit);
            drawn = ap state_of w.rand-is ∙ c.loop-row.invariant.drawn ∙ sym (state-hit start n y row hit);
            rest = subst (KeepsAllButBytes c.args.work.now) (sym w.work-is) c.loop-row.invariant.rest;
          }
    ]
