-- The proof of `read_frames` in src/sectors.rt.
use Rattle.std.proofs.Common.{◌≡◌, ◌∙◌, ◌*◌, ◌-◌, ℕ, length, get_or, take, sym, ap, arith}
use Rattle.dvd_read.proofs.FrameFaults.{fault-first, fault-none, fault-passed}
use Rattle.dvd_deep.proofs.Mains.{all-zeros, mains, mains-all, mains-next}
use Rattle.dvd_deep.proofs.sectors.read_frames.Goals as goal

pub returns-in-Err-clause-refused : goal.returns-in-Err-clause-refused
returns-in-Err-clause-refused c =
    fault-first c.args.rows.now c.args.plan.now c.loop-f.f c.in-Err.cause (omega arith) c.loop-f.invariant.right c.in-Err.ensures.refused

pub returns-in-Err-clause-zeros : goal.returns-in-Err-clause-zeros
returns-in-Err-clause-zeros c =
    let size : length c.loop-f.out ≡ 32768 = c.loop-f.invariant.size in
    all-zeros c.fill.new.self (c.fill.ensures.len ∙ size)
    (λ k below. c.fill.ensures.clones_before_last k 0 (omega arith) (omega (arith, size)))
    (λ k last.
    let is : k ≡ length c.loop-f.out - 1 = omega (arith, size) in
    ap (λ (n : ℕ). get_or c.fill.new.self n 0) is ∙ c.fill.ensures.last (omega (arith, size)) 0)

pub loop-f-preserved : goal.loop-f-preserved
loop-f-preserved c = record {
  size = c.put_sector.ensures.size;
  right = fault-passed c.args.rows.now c.args.plan.now c.loop-f.f c.loop-f.invariant.right c.in_default.ensures.right;
  written = mains-next c.args.rows.now c.args.plan.now c.loop-f.f c.loop-f.out c.put_sector.new.out c.read_frame_at.new.main
      c.put_sector.ensures.sector c.loop-f.invariant.written c.in_default.ensures.main;
}

pub returns-clause-right : goal.returns-clause-right
returns-clause-right c = fault-none c.args.rows.now c.args.plan.now (λ k below. c.loop-f.invariant.right k (omega arith))

pub returns-clause-main : goal.returns-clause-main
returns-clause-main c =
    let last : c.loop-f.f ≡ 16 = omega arith in
    mains-all c.args.rows.now c.args.plan.now c.loop-f.out c.loop-f.invariant.size
    (ap (λ (n : ℕ). take (2048 * n) c.loop-f.out) (sym last) ∙ c.loop-f.invariant.written ∙ ap (mains c.args.rows.now c.args.plan.now) last)
