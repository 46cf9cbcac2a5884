-- What each iteration of the loop in `copy_held` keeps.
use Rattle.std.proofs.Common.{◌≡◌, ℕ, ◌+◌, ◌*◌, ◌<◌, length, take}
use Rattle.coding.specs.Product.{line}
use Rattle.dvd_read.specs.Parts.{answer_bytes}
use Rattle.dvd_read.proofs.FrameFaults.{prefixes}
use Rattle.dvd_read.proofs.frames.copy_held.Given as goal

abbrev pub invariant-loop-q : goal.invariant-loop-q
invariant-loop-q l = record {
  size : length l.frame ≡ 2064;
  prefix : take (172 * l.q) l.frame ≡ prefixes (answer_bytes l.answers) l.f l.q;
  widths : (k : ℕ) → k < l.q → length (line (answer_bytes l.answers) (12 * l.f + k)) ≡ 182;
}
