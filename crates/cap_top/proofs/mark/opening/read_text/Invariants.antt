-- What each iteration of the loop in `read_text` keeps, and what it has left: a vector has fewer than 2 ^ 63 bytes.
use Rattle.std.proofs.Common.{◌-◌, ◌^◌, vec_len}
use Rattle.dvd_ports.specs.Bytes.{Consumes}
use Rattle.dvd_ports.specs.Causes.{HasGoneOn}
use Rattle.cap_top.proofs.mark.opening.read_text.Given as goal

abbrev pub invariant-loop-text : goal.invariant-loop-text
invariant-loop-text g l = record {
  reads : Consumes (g.M.Source.seen l.initial.map).bytes (g.M.Source.seen l.map).bytes l.text.items;
  on : HasGoneOn (g.M.Source.seen l.initial.map) (g.M.Source.seen l.map);
}

abbrev pub decreases-loop-text : goal.decreases-loop-text
decreases-loop-text g l = 2 ^ 64 - vec_len l.text
