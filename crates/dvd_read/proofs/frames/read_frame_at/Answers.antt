-- The proof of `read_frame_at` in src/frames.rt.
use Rattle.std.proofs.Common.{◌∙◌, Some, sym, ap}
use Rattle.dvd_read.proofs.FrameFaults.{cause_as, fault_by}
use Rattle.dvd_read.proofs.frames.read_frame_at.Goals as goal

pub returns-in-Err-clause-refused : goal.returns-in-Err-clause-refused
returns-in-Err-clause-refused c =
    let caused = cause_as c.copy_received.new.frame _ _ _ _ (Some c.in-Err.cause) c.id_of-want.ensures c.rule_of-rule.ensures c.in-Err.ensures.refused in
    fault_by c.args.rows.now c.args.plan.now c.args.f c.copy_received.new.frame (Some c.in-Err.cause) c.copy_received.ensures.frame caused
    ∙ ap Some (sym c.cause_of.ensures)
