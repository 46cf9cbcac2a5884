-- The proof of `dvdecc_scramble` in src/frames.rt.
use Rattle.std.proofs.Common.{sym, ◌∙◌}
use Rattle.dvdecc_c.proofs.frames.dvdecc_scramble.Goals as goal

pub returns-clause-main_data : goal.returns-clause-main_data
returns-clause-main_data c = rw (sym c.numbered.ensures ∙ c.in-Some.is, sym c.from_word.ensures) c.scramble.ensures.masked
