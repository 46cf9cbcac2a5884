-- What each iteration of the loop in `row_differences` keeps.
use Rattle.std.proofs.Common.{◌≡◌, ◌≤◌, take}
use Rattle.coding.specs.Distance.{distance}
use Rattle.dvd_read.proofs.passes.row_differences.Given as goal

abbrev pub invariant-loop-j : goal.invariant-loop-j
invariant-loop-j l = record { counted : l.count ≡ distance (take l.j l.received) (take l.j l.row); few : l.count ≤ l.j }
