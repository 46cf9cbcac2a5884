-- What each iteration of the loop in `open_all` keeps.
use Rattle.std.proofs.Common.{◌≡◌, vec_len}
use Rattle.cap_main.proofs.open_all.Given as goal

abbrev pub invariant-loop-name : goal.invariant-loop-name
invariant-loop-name l = vec_len l.files ≡ l.name-index
