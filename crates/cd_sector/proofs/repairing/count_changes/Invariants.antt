-- What each iteration of the loop in `count_changes` keeps.
use Rattle.std.proofs.Common.{◌≡◌, ◌+◌, ◌≤◌, drop}
use Rattle.coding.specs.Distance.{distance}
use Rattle.cd_sector.proofs.repairing.count_changes.Given as goal

abbrev pub invariant-loop-at : goal.invariant-loop-at
invariant-loop-at l = record {
  few : l.count ≤ l.at;
  so_far : l.count + distance (drop l.at l.old) (drop l.at l.new) ≡ distance (drop 12 l.old) (drop 12 l.new);
}
