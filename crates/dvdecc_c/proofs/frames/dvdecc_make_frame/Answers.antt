-- The proof of `dvdecc_make_frame` in src/frames.rt.
use Rattle.std.proofs.Common.{sym, ◌∙◌}
use Rattle.dvdecc_c.proofs.frames.dvdecc_make_frame.Goals as goal

pub returns-clause-frame : goal.returns-clause-frame
returns-clause-frame c = rw (sym c.numbered.ensures ∙ c.in-Some.is, sym c.from_word.ensures) c.make_frame.ensures
