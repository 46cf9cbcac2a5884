-- What each iteration of the loop in `read_frames` keeps.
use Rattle.std.proofs.Common.{◌≡◌, ◌*◌, length, take}
use Rattle.dvd_read.proofs.FrameFaults.{NoFaultBefore}
use Rattle.dvd_deep.proofs.Mains.{mains}
use Rattle.dvd_deep.proofs.sectors.read_frames.Given as goal

abbrev pub invariant-loop-f : goal.invariant-loop-f
invariant-loop-f l = record {
  size : length l.out ≡ 32768;
  right : NoFaultBefore l.rows l.plan l.f;
  written : take (2048 * l.f) l.out ≡ mains l.rows l.plan l.f;
}
