-- The proof of `set_rest` in src/folds.rt.
use Rattle.std.proofs.Common.{◌∙◌, refl, arith}
use Rattle.std.proofs.lemmas.List.{length-set}
use Rattle.dvd_frame.proofs.Quotients.{rests-grow_past, rests-grow_end}
use Rattle.dvd_frame.proofs.folds.set_rest.Goals as goal

pub loop-k-2-preserved : goal.loop-k-2-preserved
loop-k-2-preserved g c = record {
  size = length-set c.loop-k-2.rest c.loop-k-2.k _ ∙ c.loop-k-2.invariant.size;
  each = rests-grow_past g.row.W c.args.others.now c.args.quotient.now c.loop-k-2.rest c.loop-k-2.k _ c.requires.quotient (omega arith) (omega arith) refl c.loop-k-2.invariant.each;
}

pub loop-k-3-preserved : goal.loop-k-3-preserved
loop-k-3-preserved g c = record {
  size = length-set c.loop-k-3.rest c.loop-k-3.k _ ∙ c.loop-k-3.invariant.size;
  each = rests-grow_end g.row.W c.args.others.now c.args.quotient.now c.loop-k-3.rest c.loop-k-3.k _ c.requires.quotient (omega arith) (omega arith) refl c.loop-k-3.invariant.each;
}
