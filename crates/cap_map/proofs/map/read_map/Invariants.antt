-- What each iteration of the loop in `read_map` keeps, and what it has left.
use Rattle.std.proofs.Common.{◌≡◌, ◌≤◌, ◌+◌, length}
use Rattle.cap_map.specs.Fields.{lines_of}
use Rattle.cap_map.specs.Inner.{read_of}
use Rattle.cap_map.specs.Map.{lines_read, map_of}
use Rattle.cap_map.proofs.map.read_map.Given as goal

abbrev pub invariant-loop-rest : goal.invariant-loop-rest
invariant-loop-rest l = record {
  same : lines_read l.good (read_of l.draft) l.line (lines_of l.rest) ≡ map_of l.good l.text;
  counted : l.line + length l.rest ≤ length l.text + 1;
}

abbrev pub decreases-loop-rest : goal.decreases-loop-rest
decreases-loop-rest l = length l.rest
