-- The proof of `write_whole` in src/whole.rt.
use Rattle.std.proofs.Common.{rules}
use Rattle.dvd_ports.proofs.KnownLemmas.{writes_more}
use Rattle.dvd_ports.proofs.whole.write_whole.Goals as goal

pub loop-written-preserved : goal.loop-written-preserved
loop-written-preserved g c = record {
  bytes = writes_more _ _ _ c.args.buf.now c.loop-written.written c.in-Ok.count c.loop-written.invariant.bytes c.in-Ok.ensures.call.bytes;
  within = search rules;
  steady = search rules;
}
