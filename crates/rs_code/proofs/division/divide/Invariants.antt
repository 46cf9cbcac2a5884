-- What each iteration of the loop in `divide` keeps.
use Rattle.std.proofs.Common.{take}
use Rattle.rs_code.specs.Inner.Polynomials.{IsRemainder}
use Rattle.rs_code.proofs.division.divide.Given as goal

-- the register is the remainder of the bytes so far
abbrev pub invariant-loop-byte : goal.invariant-loop-byte
invariant-loop-byte l = IsRemainder l.generator (take l.byte-index l.message) l.register
