-- The proof of the law `message_and_edc_leave_zero` in src/laws.rt.
use Rattle.dvd_frame.proofs.Multiples.{edc_leaves_zero}
use Rattle.dvd_frame.proofs.laws.message_and_edc_leave_zero.Goals as goal

pub returns : goal.returns
returns c = edc_leaves_zero
