-- The proof of `dvdecc_read_frame` in src/frames.rt.
use Rattle.std.proofs.Common.{sym, ◌∙◌, refl}
use Rattle.dvdecc_c.proofs.frames.dvdecc_read_frame.Goals as goal

pub returns-in-Err-Edc-clause-status : goal.returns-in-Err-Edc-clause-status
returns-in-Err-Edc-clause-status c =
    rw (sym c.numbered.ensures ∙ c.in-Some.is, sym c.from_word.ensures, c.in-Err-Edc.ensures.refused, c.in-Err-Edc.field-0-is) refl
