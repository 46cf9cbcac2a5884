-- The proof of `save_frames` in src/rescue.rt.
use Rattle.std.proofs.Common.{◌≡◌, ◌+◌, ◌≤◌, ℕ, length, map, subst, sym, arith}
use Rattle.dvd_capture.specs.Parts.{sector_bytes}
use Rattle.dvd_read.specs.Parts.{answer_word}
use Rattle.dvd_read.proofs.SavedFrames.{saved-counted, saved-few, saved_before, saved_sectors-all, saved_sectors-next}
use Rattle.dvd_read.proofs.rescue.save_frames.Goals as goal

pub loop-f-preserved : goal.loop-f-preserved
loop-f-preserved c =
    let answers = map answer_word c.args.held.now.answers.now in
    let entry = c.args.plan.now in
    let f = c.loop-f.f in
    let sectors = sector_bytes c.loop-f.sectors in
    let size : length sectors ≡ 16 = omega (arith, c.loop-f.sectors.size, c.loop-f.sectors.all.ok.0) in
    record {
      counted = subst (λ (n : ℕ). c.loop-f.saved + n ≡ saved_before answers entry (f + 1)) (sym c.from-saved.ensures)
          (saved-counted answers entry f c.loop-f.saved c.save_frame.result c.loop-f.invariant.counted c.save_frame.ensures.saved);
      few = subst (λ (n : ℕ). c.loop-f.saved + n ≤ f + 1) (sym c.from-saved.ensures) (saved-few f c.loop-f.saved c.save_frame.result c.loop-f.invariant.few);
      sectors = saved_sectors-next answers entry sectors f c.save_frame.new.main (omega arith) c.loop-f.invariant.sectors c.save_frame.ensures.main;
    }

pub returns-clause-out : goal.returns-clause-out
returns-clause-out c =
    let size : length (sector_bytes c.loop-f.sectors) ≡ 16 = omega (arith, c.loop-f.sectors.size, c.loop-f.sectors.all.ok.0) in
    saved_sectors-all (map answer_word c.args.held.now.answers.now) c.args.plan.now (sector_bytes c.loop-f.sectors) size
    (λ k below. c.loop-f.invariant.sectors k (omega arith))
