-- What each iteration of the loop in `put_sectors` keeps.
use Rattle.std.proofs.Common.{◌≡◌, ℕ, ◌<◌, length}
use Rattle.coding.specs.Product.{line}
use Rattle.dvd_capture.specs.Works.{sectors_of}
use Rattle.dvdecc_c.proofs.reading.put_sectors.Given as goal

abbrev pub invariant-loop-f : goal.invariant-loop-f
invariant-loop-f l = record {
  size : length l.sectors ≡ 16;
  written : (f : ℕ) → f < l.f → line l.sectors f ≡ line (sectors_of l.work) f;
}
