-- The counts of a source over the parts of a block.
use Rattle.std.proofs.Common.{◌≡◌, ◌==◌, if◌then◌else◌, ℕ, Bool, true, false, cond, subst, sym}
use Rattle.dvd_ports.specs.Causes.{HasGoneOn, HasMetEnd}
use Rattle.dvd_ports.specs.Seen.{Seen}
use Rattle.dvd_ports.proofs.StopLemmas.{ends_after, fails_after, goes_on}
use Rattle.dvd_capture.specs.Fetching.{FetchCounts}
use Rattle.dvd_capture.specs.declared.capture.FetchAnswer.{FetchAnswer}
use Rattle.dvd_capture.specs.declared.capture.FetchAnswer.TheVariants.{Full, End, Short, ReadFault, BadMarks}

-- no read stopped, and then the counts are those of this answer
pub fetched_after : (answer : FetchAnswer) (a b c : Seen) → HasGoneOn a b → FetchCounts answer b c → FetchCounts answer a c
fetched_after Full a b c first next = goes_on a b c first next
fetched_after End a b c first next = ends_after a b c first next
fetched_after (Short count) a b c first next = ends_after a b c first next
fetched_after ReadFault a b c first next = fails_after a b c first next
fetched_after (BadMarks at) a b c first next = goes_on a b c first next

-- fewer bytes came, so the last read met the end of the input
pub cut_counts : (count : ℕ) (answer : FetchAnswer) (old new : Seen) → answer ≡ (if count == 0 then End else Short count)
    → HasMetEnd old new → FetchCounts answer old new
cut_counts count answer old new is met = subst (λ a. FetchCounts a old new) (sym is) (by (count == 0))
  where
    by : (none : Bool) → FetchCounts (cond none End (Short count)) old new
    by true = met
    by false = met
