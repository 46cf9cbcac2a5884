-- The proof of `hurt` in src/damage.rt.
use Rattle.std.proofs.Common.{◌∙◌, sym, arith}
use Rattle.dvd_capture.specs.Works.{marks_of_work, rows_of}
use Rattle.dvd_capture.proofs.WorkParts.{rows-height}
use Rattle.dvd_exercise.specs.Damage.{IsHurt}
use Rattle.dvd_exercise.specs.Generator.{state_of}
use Rattle.dvd_exercise.proofs.Bound.{hurt_within}
use Rattle.dvd_exercise.proofs.Whole.{hurt_by, hurt_drawn}
use Rattle.dvd_exercise.proofs.damage.hurt.Goals as goal

-- all that is drawn is done
whole : (c : goal.After-hurt_others) → IsHurt (state_of c.args.rand.now) (rows_of c.args.work.now) (marks_of_work c.args.work.now) (rows_of c.hurt_others.new.work) (marks_of_work c.hurt_others.new.work)
whole c =
    let plan = c.draw-plan.result in
    hurt_drawn (state_of c.args.rand.now) plan.bad plan.lost plan.start (state_of c.draw-plan.new.rand) _ _ _ _
    c.draw-plan.ensures.bad c.draw-plan.ensures.lost c.draw-plan.ensures.start c.draw-plan.ensures.state
    (hurt_by plan.bad plan.lost plan.start (state_of c.draw-plan.new.rand) (state_of c.combine_rows.new.rand)
    (rows_of c.args.work.now) (rows_of c.combine_rows.new.work) (rows_of c.lose_rows.new.work) (rows_of c.hurt_others.new.work)
    (marks_of_work c.args.work.now) (marks_of_work c.combine_rows.new.work) (marks_of_work c.lose_rows.new.work) (marks_of_work c.hurt_others.new.work)
    (omega (arith, plan.bound)) (rows-height c.hurt_others.new.work.received ∙ sym (rows-height c.args.work.now.received))
    c.combine_rows.ensures.received c.lose_rows.ensures.received c.lose_rows.ensures.marks c.combine_rows.ensures.rest.marks c.hurt_others.ensures.rest.marks
    c.combine_rows.ensures.drawn c.hurt_others.ensures.hit c.hurt_others.ensures.others)

pub returns-clause-hurt : goal.returns-clause-hurt
returns-clause-hurt c = whole c

pub returns-clause-within : goal.returns-clause-within
returns-clause-within c = λ unmarked.
    hurt_within (state_of c.args.rand.now) (rows_of c.args.work.now) (marks_of_work c.args.work.now) _ _ (rows-height c.args.work.now.received) unmarked (whole c)
