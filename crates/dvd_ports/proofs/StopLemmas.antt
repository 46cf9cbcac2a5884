-- The counts of an object over several calls.
use Rattle.std.proofs.Common.{◌∙◌, refl, arith, subst, sym, ◌≤◌, ap}
use Rattle.dvd_ports.specs.Causes.{HasFailed, HasGoneOn, HasMetEnd, Rose, next_count}
use Rattle.dvd_ports.specs.Seen.{Seen}

-- where no call came
pub unmoved : (s : Seen) → HasGoneOn s s
unmoved s = record { faults = refl; ends = refl }

-- no call stopped, and then none
pub goes_on : (a b c : Seen) → HasGoneOn a b → HasGoneOn b c → HasGoneOn a c
goes_on a b c first next = record { faults = next.faults ∙ first.faults; ends = next.ends ∙ first.ends }

-- no call stopped, and then one failed
pub fails_after : (a b c : Seen) → HasGoneOn a b → HasFailed b c → HasFailed a c
fails_after a b c first next = record {
  faults = next.faults ∙ ap next_count first.faults;
  ends = next.ends ∙ first.ends;
  last = next.last;
  later = subst (λ n. n ≤ c.faults) first.faults next.later;
}

-- no call stopped, and then one met the end of the input
pub ends_after : (a b c : Seen) → HasGoneOn a b → HasMetEnd b c → HasMetEnd a c
ends_after a b c first next = record {
  faults = next.faults ∙ first.faults;
  ends = next.ends ∙ ap next_count first.ends;
  last = next.last;
}

-- the count of an object that failed rose
pub rose : (a b : Seen) → HasFailed a b → Rose a.faults b.faults
rose a b failed = subst (λ n. next_count a.faults ≤ n) (sym failed.faults) (omega arith)
