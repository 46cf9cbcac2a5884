-- What each iteration of the loop in `write_blocks` keeps.
use Rattle.std.proofs.Common.{take}
use Rattle.dvd_ports.specs.Bytes.{Appends}
use Rattle.dvd_ports.specs.Causes.{HasGoneOn}
use Rattle.dvd_assemble.specs.Shelves.{tables_of}
use Rattle.dvd_commands.specs.Assemble.{text_of}
use Rattle.dvd_commands.proofs.assemble.write_blocks.Given as goal

abbrev pub invariant-loop-k : goal.invariant-loop-k
invariant-loop-k g l = record {
  bytes : Appends (g.K.Sink.seen l.fn.out).bytes (g.K.Sink.seen l.out).bytes (text_of (take l.k (tables_of l.shelf)));
  steady : HasGoneOn (g.K.Sink.seen l.fn.out) (g.K.Sink.seen l.out);
}
