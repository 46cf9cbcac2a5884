-- The proof of `read_frames` in src/frames.rt.
use Rattle.std.proofs.Common.{◌≡◌, ◌∙◌, length, Some, None, sym, ap, arith}
use Rattle.dvd_capture.specs.Parts.{sector_bytes}
use Rattle.coding.specs.TwoPass.{from_columns}
use Rattle.dvd_frame.specs.Frame.{main_in}
use Rattle.dvd_read.specs.Inner.Found.{words_of_columns}
use Rattle.dvd_read.proofs.FrameFaults.{cause_as, fault-here, fault-next, fault-none, mains-all, mains-next}
use Rattle.dvd_read.proofs.frames.read_frames.Goals as goal

pub returns-in-Err-clause-refused : goal.returns-in-Err-clause-refused
returns-in-Err-clause-refused c =
    let caused = cause_as c.get_frame.new.frame _ _ _ _ (Some c.in-Err.cause) c.id_of-want.ensures c.rule_of-rule.ensures c.in-Err.ensures.refused in
    fault-here (from_columns (words_of_columns c.args.columns.now)) c.args.plan.now c.loop-f.f c.get_frame.new.frame c.in-Err.cause (omega arith)
    c.loop-f.invariant.right c.get_frame.ensures caused
    ∙ ap Some (sym c.cause_of.ensures)

pub loop-f-preserved : goal.loop-f-preserved
loop-f-preserved c =
    let block = from_columns (words_of_columns c.args.columns.now) in
    let f = c.loop-f.f in
    let sectors = sector_bytes c.loop-f.sectors in
    let size : length sectors ≡ 16 = omega (arith, c.loop-f.sectors.size, c.loop-f.sectors.all.ok.0) in
    let right = cause_as c.get_frame.new.frame _ _ _ _ None c.id_of-want.ensures c.rule_of-rule.ensures c.in_default.ensures.right in
    record {
      right = fault-next block c.args.plan.now f c.get_frame.new.frame c.loop-f.invariant.right c.get_frame.ensures right;
      mains = mains-next block c.args.plan.now sectors f c.get_frame.new.frame c.read_frame_into.new.out (omega arith) c.loop-f.invariant.mains
          c.get_frame.ensures
          (c.in_default.ensures.main ∙ ap (main_in c.get_frame.new.frame) c.rule_of-rule.ensures);
    }

pub returns-clause-right : goal.returns-clause-right
returns-clause-right c = fault-none (from_columns (words_of_columns c.args.columns.now)) c.args.plan.now (λ k below. c.loop-f.invariant.right k (omega arith))

pub returns-clause-main : goal.returns-clause-main
returns-clause-main c =
    let size : length (sector_bytes c.loop-f.sectors) ≡ 16 = omega (arith, c.loop-f.sectors.size, c.loop-f.sectors.all.ok.0) in
    mains-all (from_columns (words_of_columns c.args.columns.now)) c.args.plan.now (sector_bytes c.loop-f.sectors) size
    (λ k below. c.loop-f.invariant.mains k (omega arith))
