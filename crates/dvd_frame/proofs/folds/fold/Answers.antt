-- The proof of `fold` in src/folds.rt.
use Rattle.dvd_frame.proofs.Quotients.{fold_divides}
use Rattle.dvd_frame.proofs.folds.fold.Goals as goal

pub returns-clause-same : goal.returns-clause-same
returns-clause-same g c = λ k power.
    fold_divides k g.row.W c.args.first c.args.others.now c.set_quotient.new.quotient c.set_rest.new.rest power c.fits-first.0 c.requires.others c.set_quotient.ensures.size c.set_rest.ensures.size
    c.set_quotient.ensures.each c.set_rest.ensures.each
