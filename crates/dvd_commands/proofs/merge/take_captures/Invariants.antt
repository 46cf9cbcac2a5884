-- What each iteration of the loop in `take_captures` keeps.
use Rattle.dvd_ports.specs.Causes.{HasGoneOn}
use Rattle.dvd_merge.specs.Merges.{table_of}
use Rattle.dvd_commands.specs.Inner.Performing.{AreTaken}
use Rattle.dvd_commands.proofs.merge.take_captures.Given as goal

abbrev pub invariant-loop-c : goal.invariant-loop-c
invariant-loop-c g l = record {
  taken : AreTaken l.c l.form (g.S.Source.seen l.fn.src).bytes (g.S.Source.seen l.src).bytes (table_of l.merge);
  steady : HasGoneOn (g.S.Source.seen l.fn.src) (g.S.Source.seen l.src);
}
