-- The proof of `copy_frame` in src/frames.rt.
use Rattle.std.proofs.Common.{refl, arith}
use Rattle.coding.specs.TwoPass.{from_columns}
use Rattle.dvd_read.specs.Inner.Found.{words_of_columns}
use Rattle.dvd_read.proofs.FrameFaults.{prefixes-all, prefixes-next}
use Rattle.dvd_read.proofs.frames.copy_frame.Goals as goal

pub loop-q-init : goal.loop-q-init
loop-q-init c = record { size = c.told-frame; prefix = refl }

pub loop-q-preserved : goal.loop-q-preserved
loop-q-preserved c = record {
  size = c.put_data.array_long;
  prefix = prefixes-next (from_columns (words_of_columns c.args.columns.now)) c.args.f c.loop-q.q c.loop-q.frame c.put_data.new.frame c.read_row.new.row
      c.put_data.ensures.prefix c.loop-q.invariant.prefix c.read_row.ensures;
}

pub returns : goal.returns
returns c = prefixes-all (from_columns (words_of_columns c.args.columns.now)) c.args.f c.loop-q.q c.loop-q.frame c.loop-q.invariant.size (omega arith) c.loop-q.invariant.prefix
