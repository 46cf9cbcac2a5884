-- What each iteration of the loop in `any_of` keeps.
use Rattle.std.proofs.Common.{◌≡◌, ◌↔◌, ℕ, ◌<◌, length, get_or}
use Rattle.coding.specs.Rows.{place}
use Rattle.rs_lanes.proofs.lanes.any_of.Given as goal

-- a lane is zero where those of the vectors so far are
abbrev pub invariant-loop-k : goal.invariant-loop-k
invariant-loop-k g l = record {
  size : length l.any ≡ 32;
  zeros : (j : ℕ) → j < 32 → (get_or l.any j 0 ≡ 0) ↔ ((k : ℕ) → k < l.k → place l.vectors k j ≡ 0);
}
