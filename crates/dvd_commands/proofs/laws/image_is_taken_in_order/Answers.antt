-- The proof of the law `image_is_taken_in_order` in src/laws.rt.
use Rattle.dvd_commands.proofs.master.ImageTaken.{in_order}
use Rattle.dvd_commands.proofs.laws.image_is_taken_in_order.Goals as goal

pub returns : goal.returns
returns c = λ layout zones cpr image k entry a. in_order layout zones cpr image k entry a
