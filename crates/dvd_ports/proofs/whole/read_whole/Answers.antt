-- The proof of `read_whole` in src/whole.rt.
use Rattle.std.proofs.Common.{rules}
use Rattle.dvd_ports.proofs.KnownLemmas.{reads_inside, reads_more}
use Rattle.dvd_ports.proofs.whole.read_whole.Goals as goal

pub loop-filled-preserved : goal.loop-filled-preserved
loop-filled-preserved g c = record {
  bytes = reads_more _ _ _ _ _ _ c.loop-filled.filled c.in_ok-count.count c.loop-filled.invariant.within c.in_ok-count.ensures.call.bound.0 c.loop-filled.invariant.bytes c.in_ok-count.ensures.call.bytes.0;
  within = reads_inside c.loop-filled.buf c.read.new.buf _ c.loop-filled.filled c.in_ok-count.count c.loop-filled.invariant.within c.in_ok-count.ensures.call.bound.0;
  steady = search rules;
}
