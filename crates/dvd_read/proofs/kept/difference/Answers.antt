-- The proof of `difference` in src/kept.rt.
use Rattle.std.proofs.Common.{get_or, ◌∙◌, sym, ap}
use Rattle.coding.specs.Field.{plus}
use Rattle.gf_field.proofs.FieldLaws.{plus-self, plus-zero_same}
use Rattle.rs_lanes.proofs.LaneLemmas.{HoldsLanes-zip2}
use Rattle.dvd_read.proofs.kept.difference.Goals as goal

pub returns : goal.returns
returns c = λ n below.
    let word = c.args.word.now in
    let lanes = c.args.lanes in
    let is = (HoldsLanes-zip2 32 plus c.load.result lanes c.load.ensures.size c.requires.lanes).each n below in
    let here = c.load.ensures.each n below in (
      (λ zero_is. sym here ∙ plus-zero_same (get_or c.load.result n 0) (get_or lanes n 0) (sym is ∙ zero_is)),
      (λ same. is ∙ ap (λ byte. plus byte (get_or lanes n 0)) (here ∙ same) ∙ plus-self (get_or lanes n 0)),
    )
