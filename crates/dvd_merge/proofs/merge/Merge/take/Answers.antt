-- The proof of `Merge::take` in src/merge.rt.
use Rattle.std.proofs.Common.{rules, refl, arith}
use Rattle.dvd_capture.proofs.WorkParts.{marks-height, rows-height}
use Rattle.dvd_capture.specs.Works.{marks_of_work, rows_of}
use Rattle.dvd_merge.specs.Merges.{table_of}
use Rattle.dvd_merge.proofs.Records.{table_taken}
use Rattle.dvd_merge.proofs.MergeTables.{height}
use Rattle.dvd_merge.proofs.Tables.{more-taken}
use Rattle.dvd_merge.proofs.merge.Merge.take.Goals as goal

pub loop-i-init : goal.loop-i-init
loop-i-init c = record { height = height c.args.self.now; taken = λ q below. absurd (omega (arith, below)); rest = λ q above. refl }

pub loop-i-preserved : goal.loop-i-preserved
loop-i-preserved c =
    more-taken (table_of c.args.self.now) (table_of c.loop-i.self) (table_of c.take_row.new.self) (rows_of c.args.work.now) (marks_of_work c.args.work.now) c.loop-i.i
    c.loop-i-test.true c.loop-i.invariant (height c.take_row.new.self) (search rules)

pub returns : goal.returns
returns c =
    table_taken (table_of c.args.self.now) (table_of c.loop-i.self) (rows_of c.args.work.now) (marks_of_work c.args.work.now)
    (height c.args.self.now) (rows-height c.args.work.now.received) (marks-height c.args.work.now.marks) (height c.loop-i.self)
    (λ q below. c.loop-i.invariant.taken q (omega (arith, below, c.loop-i-test.false)))
