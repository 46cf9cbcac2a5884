-- The proof of `FrameWork::join_into` in src/frame.rt.
use Rattle.std.proofs.Common.{rules, subst, arith}
use Rattle.dvd_merge.specs.Merges.{table_of}
use Rattle.dvd_merge.proofs.MergeTables.{height}
use Rattle.dvd_assemble.specs.Works.{captured}
use Rattle.dvd_assemble.proofs.Joining.{IsPartlyJoined, all_joined, none_joined, row_joined}
use Rattle.dvd_assemble.proofs.frame.FrameWork.join_into.Goals as goal

pub loop-q-init : goal.loop-q-init
loop-q-init c = none_joined c.args.f (captured c.args.self.now) (table_of c.args.merge.now) (height c.args.merge.now)

pub loop-q-preserved : goal.loop-q-preserved
loop-q-preserved c =
    row_joined c.args.f c.loop-q.q (captured c.args.self.now) (table_of c.args.merge.now) (table_of c.loop-q.merge) (table_of c.take_row.new.self)
    c.requires c.loop-q-test.true c.loop-q.invariant (search rules)

pub returns : goal.returns
returns c =
    all_joined c.args.f (captured c.args.self.now) (table_of c.args.merge.now) (table_of c.loop-q.merge)
    (subst (IsPartlyJoined c.args.f (captured c.args.self.now) (table_of c.args.merge.now) (table_of c.loop-q.merge)) (omega arith) c.loop-q.invariant)
