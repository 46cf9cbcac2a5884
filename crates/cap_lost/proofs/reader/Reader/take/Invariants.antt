-- What each iteration of the loop in `Reader::take` keeps.
use Rattle.std.proofs.Common.{◌≡◌, ◌++◌, ℕ, List, drop}
use Rattle.cap_lost.specs.Inner.{HasReadOn, IsReaderSound, goes_on}
use Rattle.cap_lost.proofs.reader.Reader.take.Given as goal

abbrev pub invariant-loop-byte : goal.invariant-loop-byte
invariant-loop-byte l = record {
  read : (rest : List ℕ) → goes_on l.fn.self (l.piece ++ rest) ≡ goes_on l.self (drop l.byte-index l.piece ++ rest);
  sound : IsReaderSound l.self;
  moved : HasReadOn l.byte-index l.fn.self l.self;
}
