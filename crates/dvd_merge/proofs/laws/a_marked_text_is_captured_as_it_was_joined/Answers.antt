-- The proof of the law `a_marked_text_is_captured_as_it_was_joined` in src/laws.rt.
use Rattle.dvd_merge.proofs.Reread.{marks_read, rows_read}
use Rattle.dvd_merge.proofs.laws.a_marked_text_is_captured_as_it_was_joined.Goals as goal

pub returns : goal.returns
returns c = λ table height widths. (rows_read table height widths, marks_read table height widths)
