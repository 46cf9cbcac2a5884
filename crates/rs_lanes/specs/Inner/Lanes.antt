-- Ours: vectors of bytes, lane by lane.
use Rattle.std.specs.Prelude.{◌≡◌, ℕ, ◌<◌, List, length, slice_index}

-- a vector has this many lanes, and lane k holds f k
pub record HoldsLanes (count : ℕ) (lanes : List ℕ) (f : ℕ → ℕ) : Type 0 where
  pub size : length lanes ≡ count
  pub each : (k : ℕ) → k < count → slice_index lanes k ≡ f k

-- a vector of 32 lanes, likewise
abbrev pub HasLanes : List ℕ → (ℕ → ℕ) → Type 0
HasLanes lanes f = HoldsLanes 32 lanes f
