-- What each iteration of the loop in `save_frames` keeps.
use Rattle.std.proofs.Common.{◌≡◌, ◌≤◌, map}
use Rattle.dvd_capture.specs.Parts.{sector_bytes}
use Rattle.dvd_read.specs.Parts.{answer_word}
use Rattle.dvd_read.proofs.SavedFrames.{AreSavedBefore, saved_before}
use Rattle.dvd_read.proofs.rescue.save_frames.Given as goal

abbrev pub invariant-loop-f : goal.invariant-loop-f
invariant-loop-f l = record {
  counted : l.saved ≡ saved_before (map answer_word l.held.answers.now) l.plan l.f;
  few : l.saved ≤ l.f;
  sectors : AreSavedBefore (map answer_word l.held.answers.now) l.plan (sector_bytes l.sectors) l.f;
}
