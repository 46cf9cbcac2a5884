-- What each iteration of the loop in `write_each` keeps.
use Rattle.std.proofs.Common.{◌≡◌, ℕ, List, ◌++◌}
use Rattle.dvd_ports.specs.Bytes.{Appends}
use Rattle.std.specs.Slice.Iter.{chunks_rest, chunks_size}
use Rattle.dvd_ports.specs.Causes.{HasGoneOn}
use Rattle.dvd_commands.proofs.captured.write_each.Given as goal

abbrev pub invariant-loop-sector : goal.invariant-loop-sector
invariant-loop-sector g l =
    (goal.iterator-loop-sector g).can_next l.sector-iterator
    × (goal.iterator-loop-sector g).is_finite l.sector-iterator
    × (chunks_size l.sector-iterator ≡ 2048)
    × HasGoneOn (g.K.Sink.seen l.fn.out) (g.K.Sink.seen l.out)
    × ((done : List ℕ) × Appends (g.K.Sink.seen l.fn.out).bytes (g.K.Sink.seen l.out).bytes done × (done ++ chunks_rest l.sector-iterator ≡ l.fn.sectors))
