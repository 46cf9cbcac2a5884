-- What calls leave of the counts of an object, and when one of them may answer that the object failed.
use Rattle.std.specs.Prelude.{ℕ, ◌+◌, ◌-◌, ◌^◌, ◌<◌, ◌≤◌, ◌≡◌, min, true, Result, IfOk, OnOk, OnErr}
use Rattle.dvd_ports.specs.Seen.{Seen}

-- one more, but a count stays at the greatest number of 64 bits
abbrev pub next_count : ℕ → ℕ
next_count n = min (n + 1) (2 ^ 64 - 1)

-- The count rose: it is greater than before, or at the greatest number of 64 bits. An adapter counts in 64 bits; at
-- that number a fault may come without a rise.
abbrev pub Rose : ℕ → ℕ → Type 0
Rose before now = next_count before ≤ now

-- No call failed, and none met the end of the input.
pub record HasGoneOn (before now : Seen) : Type 0 where
  pub faults : now.faults ≡ before.faults
  pub ends : now.ends ≡ before.ends

-- One call failed, and it was the last: nothing was tried again.
pub record HasFailed (before now : Seen) : Type 0 where
  pub faults : now.faults ≡ next_count before.faults
  pub ends : now.ends ≡ before.ends
  pub last : now.stopped ≡ true
  pub later : before.faults ≤ now.faults

-- One call met the end of the input, and it was the last: the end was believed at once.
pub record HasMetEnd (before now : Seen) : Type 0 where
  pub faults : now.faults ≡ before.faults
  pub ends : now.ends ≡ next_count before.ends
  pub last : now.stopped ≡ true

-- Several calls that together have this result: they failed where one of them did, the last; and where they succeeded
-- none failed.
pub record HasCause {T E : Type 0} (before now : Seen) (result : Result T E) : Type 0 where
  pub failed : OnErr result (HasFailed before now)
  pub steady : OnOk result (HasGoneOn before now)

-- Likewise for reads that answer how many of `size` bytes came: fewer come only where the last read met the end of the
-- input.
pub record HasFilled {E : Type 0} (size : ℕ) (before now : Seen) (result : Result ℕ E) : Type 0 where
  pub failed : OnErr result (HasFailed before now)
  pub full : IfOk result (λ count. size ≤ count → HasGoneOn before now)
  pub ended : IfOk result (λ count. count < size → HasMetEnd before now)
