-- The proof of `rescued_places` in src/marks.rt.
use Rattle.std.proofs.Common.{◌∙◌, not, ap, sym}
use Rattle.std.proofs.lemmas.List.{get_or-replicate}
use Rattle.dvd_capture.specs.MarkBits.{is_other}
use Rattle.cap_mark.proofs.MarkLemmas.{said-back}
use Rattle.cap_mark.proofs.marks.rescued_places.Goals as goal

pub returns-in-Some : goal.returns-in-Some
returns-in-Some c = λ j below.
    ap (is_other 1) (get_or-replicate 182 j c.from.result 0 below ∙ c.from.ensures) ∙ said-back c.in-Some.rescued ∙ ap not (sym (c.in-Some.ensures j below))
