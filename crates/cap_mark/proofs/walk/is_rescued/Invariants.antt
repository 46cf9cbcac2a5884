-- What each iteration of the loop in `is_rescued` keeps.
use Rattle.std.proofs.Common.{◌≡◌, drop}
use Rattle.cap_map.specs.Spans.{is_rescued}
use Rattle.cap_mark.proofs.walk.is_rescued.Given as goal

abbrev pub invariant-loop-span : goal.invariant-loop-span
invariant-loop-span l = is_rescued (drop l.span-index l.spans) l.byte ≡ is_rescued l.spans l.byte
