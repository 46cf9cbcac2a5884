-- The proof of `fill_bytes` in src/record.rt.
use Rattle.std.proofs.Common.{◌∙◌, ◌*◌, arith}
use Rattle.dvd_merge.proofs.Bits.{bytes-all, bytes-more}
use Rattle.dvd_merge.proofs.record.fill_bytes.Goals as goal

pub loop-group-preserved : goal.loop-group-preserved
loop-group-preserved c = record {
  size = c.store.ensures.size ∙ c.loop-group.invariant.size;
  filled = λ q inside below.
      bytes-more c.args.values.now c.args.codes.now c.loop-group.bytes c.store.new.row c.known_bytes.result c.load.result c.load-in-loop-group.result (32 * c.loop-group.group) c.start_of-at.result
      c.start_of-at.ensures.from c.start_of-at.ensures.last c.loop-group.invariant.filled c.load.ensures.each c.load-in-loop-group.ensures.each c.known_bytes.ensures.each
      c.store.ensures.set c.store.ensures.below q inside (omega (arith, below));
}

pub returns : goal.returns
returns c =
    bytes-all c.args.values.now c.args.codes.now c.loop-group.bytes c.told-values c.told-codes c.loop-group.invariant.size
    (λ q below. c.loop-group.invariant.filled q below (omega (arith, below, c.loop-group-test.false)))
