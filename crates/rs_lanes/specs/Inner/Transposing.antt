-- Ours: how rows are transposed into vectors, in two equal steps.
use Rattle.std.specs.Prelude.{◌≡◌, ℕ, ◌+◌, ◌*◌, ◌/◌, ◌%◌, ◌<◌, List}
use Rattle.coding.specs.Rows.{place}

-- the sixteen vectors after one step: those of the four quarters alternate, lane by lane, in each half of a vector
pub record IsRiffled (before after : List (List ℕ)) : Type 0 where
  pub each : (k n : ℕ) → k < 16 → n < 32
      → place after k n ≡ place before (4 * (n % 4) + k / 4) (16 * (n / 16) + (4 * (k % 4) + n % 16 / 4))

-- sixteen vectors, transposed in each half
pub record IsTransposed (before after : List (List ℕ)) : Type 0 where
  pub each : (k n : ℕ) → k < 16 → n < 32 → place after k n ≡ place before (n % 16) (16 * (n / 16) + k)
