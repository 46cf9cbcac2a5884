-- What each iteration of the loop in `count_errors` keeps.
use Rattle.std.proofs.Common.{◌≡◌, ◌+◌, ◌≤◌, drop}
use Rattle.rs_decode.specs.Errors.{error_count}
use Rattle.rs_decode.proofs.locating.count_errors.Given as goal

-- the count so far and the errors from the place on are all errors
abbrev pub invariant-loop-place : goal.invariant-loop-place
invariant-loop-place l = record {
  few : l.count ≤ l.place;
  so_far : l.count + error_count (drop l.place l.received) (drop l.place l.word) (drop l.place l.marks) ≡ error_count l.received l.word l.marks;
}
