-- What each iteration of the loop in `fill_bytes` keeps.
use Rattle.std.proofs.Common.{◌≡◌, ℕ, ◌*◌, ◌<◌, length, get_or}
use Rattle.dvd_merge.specs.Join.{byte_of}
use Rattle.dvd_merge.specs.Inner.Rows.{at_place}
use Rattle.dvd_merge.proofs.record.fill_bytes.Given as goal

abbrev pub invariant-loop-group : goal.invariant-loop-group
invariant-loop-group l = record {
  size : length l.bytes ≡ 182;
  filled : (q : ℕ) → q < 182 → q < 32 * l.group → get_or l.bytes q 0 ≡ byte_of (at_place l.values l.codes q);
}
