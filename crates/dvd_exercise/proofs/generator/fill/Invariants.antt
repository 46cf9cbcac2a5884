-- What each iteration of the loop in `fill` keeps.
use Rattle.std.proofs.Common.{◌≡◌, ℕ, ◌<◌, get_or}
use Rattle.dvd_exercise.specs.Generator.{drawn_byte, state_after, state_of}
use Rattle.dvd_exercise.proofs.generator.fill.Given as goal

abbrev pub invariant-loop-byte : goal.invariant-loop-byte
invariant-loop-byte l = record {
  state : state_of l.rand ≡ state_after (state_of l.fn.rand) l.byte-index;
  drawn : (k : ℕ) → k < l.byte-index → get_or l.bytes k 0 ≡ drawn_byte (state_of l.fn.rand) k;
}
