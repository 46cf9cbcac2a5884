-- The proof of `join_row` in src/row.rt.
use Rattle.std.proofs.Common.{◌*◌, subst, arith}
use Rattle.dvd_merge.proofs.Rows.{AreJoinedBelow, more-joined, none-joined}
use Rattle.dvd_merge.proofs.row.join_row.Goals as goal

pub loop-group-init : goal.loop-group-init
loop-group-init c = none-joined c.args.values.now c.args.codes.now c.args.bytes.now c.args.marks.now

pub loop-group-preserved : goal.loop-group-preserved
loop-group-preserved c =
    subst (AreJoinedBelow c.args.values.now c.args.codes.now c.join_at.new.values c.join_at.new.codes c.args.bytes.now c.args.marks.now) (omega arith)
    (more-joined c.args.values.now c.args.codes.now c.loop-group.values c.loop-group.codes c.join_at.new.values c.join_at.new.codes c.args.bytes.now c.args.marks.now
    (32 * c.loop-group.group) c.start_of.result c.start_of.ensures.from (λ less. omega (arith, c.start_of.ensures.last less)) c.start_of.ensures.reach c.loop-group.invariant c.join_at.ensures)

pub returns : goal.returns
returns c = λ k below. c.loop-group.invariant.joined k below (omega (arith, below, c.loop-group-test.false))
