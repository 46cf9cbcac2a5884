-- The proof of `copy_tile` in src/copying.rt.
use Rattle.std.proofs.Common.{◌+◌, get_or, arith}
use Rattle.dvd_read.proofs.Standing.{column-copied}
use Rattle.dvd_read.proofs.copying.copy_tile.Goals as goal

pub loop-group-preserved : goal.loop-group-preserved
loop-group-preserved c = record {
  size = omega (arith, c.copy_rows.ensures.size, c.loop-group.invariant.size);
  copied = λ j i d within above. c.copy_rows.ensures.copied c.loop-group.invariant.copied j i d within (omega arith);
}

pub returns-clause-own : goal.returns-clause-own
returns-clause-own c = record {
  are = λ j d below.
      let copied = c.copy_rows-2.ensures.copied (λ k i e within above. c.loop-group.invariant.copied k i e within (omega arith)) in
      column-copied c.args.answers.now (c.args.start + j) (get_or c.copy_rows-2.new.piece j d).bytes c.requires.rows (c.copy_rows-2.ensures.wide j d below)
      (λ k above. copied j k d below above);
}
