-- The proof of `marks` in src/repairing.rt.
use Rattle.std.proofs.Common.{refl, arith}
use Rattle.cd_sector.proofs.Places.{word_size-q, sector_place-q}
use Rattle.cd_sector.proofs.NearWords.{marks_told, no_mark}
use Rattle.cd_sector.proofs.repairing.marks.Goals as goal

pub place-requires-clause-byte : goal.place-requires-clause-byte
place-requires-clause-byte c = omega (arith, word_size-q c.args.word c.requires.q_word)

pub overflow_sub-marks : goal.overflow_sub-marks
overflow_sub-marks c = omega (arith, c.place.ensures.value, sector_place-q c.args.word c.loop-m.m c.requires.q_word (omega arith))

pub returns : goal.returns
returns c = λ read lost_are.
    marks_told read c.args.word c.args.lost.now c.loop-m.marks c.loop-m.invariant.size lost_are
    (λ m below. c.loop-m.invariant.said m (omega arith)) (λ m own. c.loop-m.invariant.rest m (omega (arith, c.loop-m.auto)))

pub loop-m-init : goal.loop-m-init
loop-m-init c = record {
  size = refl;
  said = λ m below. absurd (omega arith);
  rest = λ m _. no_mark 45 m;
}
