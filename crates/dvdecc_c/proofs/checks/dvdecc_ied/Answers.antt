-- The proof of `dvdecc_ied` in src/checks.rt.
use Rattle.std.proofs.Common.{◌∙◌, ap}
use Rattle.dvd_frame.specs.Id.{ied_of}
use Rattle.dvdecc_c.proofs.checks.dvdecc_ied.Goals as goal

pub returns : goal.returns
returns c = c.ied.ensures.value ∙ ap ied_of c.from_word.ensures
