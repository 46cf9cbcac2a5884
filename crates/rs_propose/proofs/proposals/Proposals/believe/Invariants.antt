-- What each iteration of the loop in `believe` keeps.
use Rattle.std.proofs.Common.{◌≡◌, ℕ, ◌<◌, ◌≤◌, false, length, get_or, replicate, All}
use Rattle.coding.specs.Field.{alpha, plus, power}
use Rattle.coding.specs.Words.{IsByte, value}
use Rattle.rs_decode.specs.Errors.{error_count}
use Rattle.rs_propose.proofs.proposals.Proposals.believe.Given as goal

-- the row's values are those of the received row plus the sums, and the places that differ are counted
abbrev pub invariant-loop-k : goal.invariant-loop-k
invariant-loop-k l = record {
  size : length l.row ≡ 182;
  bytes : All IsByte l.row;
  lanes : length l.sums ≡ 16;
  values : (k : ℕ) → k < 16 → value l.row (power alpha k) ≡ plus (value l.received (power alpha k)) (get_or l.sums k 0);
  counted : l.errors ≡ error_count l.received l.row (replicate 182 false);
  few : l.errors ≤ l.k;
}
