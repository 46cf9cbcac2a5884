-- What each iteration of the loop in `play_rounds` keeps.
use Rattle.std.proofs.Common.{◌≡◌, ◌-◌}
use Rattle.dvd_deep.specs.Inner.Buffers.{buffered_state}
use Rattle.dvd_deep.specs.Rounds.{after_rounds}
use Rattle.dvd_deep.proofs.Searches.{NoneFinishesBefore}
use Rattle.dvd_deep.proofs.rounds.play_rounds.Given as goal

abbrev pub invariant-loop-t : goal.invariant-loop-t
invariant-loop-t l = record {
  state : buffered_state l.rows l.marks ≡ after_rounds (l.t - 1) (buffered_state l.fn.rows l.fn.marks);
  before : NoneFinishesBefore (buffered_state l.fn.rows l.fn.marks) l.t;
}
