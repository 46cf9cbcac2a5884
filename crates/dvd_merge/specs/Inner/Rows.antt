-- Rows that are joined lane by lane.
use Rattle.std.specs.Prelude.{◌≡◌, ℕ, ◌+◌, ◌<◌, ◌==◌, ◌≤◌, Bool, not, List, length, slice_index}
use Rattle.dvd_capture.specs.MarkBits.{is_set}
use Rattle.dvd_merge.specs.Join.{join, seen}
use Rattle.dvd_merge.specs.Planes.{place_from}
use Rattle.dvd_merge.specs.declared.place.Place.{Place}

-- whether a code says that no one byte is known of a place
abbrev pub is_unknown : ℕ → Bool
is_unknown code = not (code == 1)

-- place k of two planes
abbrev pub at_place : List ℕ → List ℕ → ℕ → Place
at_place values codes k = place_from (slice_index values k) (slice_index codes k)

-- place k of two planes with what a capture knows of it joined to it
abbrev pub joined_at : List ℕ → List ℕ → List ℕ → List ℕ → ℕ → Place
joined_at values codes bytes marks k = join (at_place values codes k) (seen (slice_index bytes k) (is_set (slice_index marks k)))

-- 32 lanes, of which lane k holds f k
pub record HasLanes (lanes : List ℕ) (f : ℕ → ℕ) : Type 0 where
  pub size : length lanes ≡ 32
  pub each : (k : ℕ) → k < 32 → slice_index lanes k ≡ f k

-- 32 lanes of values and of codes, whose places are these
pub record HasPlaces (values codes : List ℕ) (f : ℕ → Place) : Type 0 where
  pub values_size : length values ≡ 32
  pub codes_size : length codes ≡ 32
  pub each : (k : ℕ) → k < 32 → at_place values codes k ≡ f k

-- The places from `at` on, 32 of them, are joined to those of a capture, and all others stay as they were.
pub record AreJoined (values codes new_values new_codes bytes marks : List ℕ) (at : ℕ) : Type 0 where
  pub joined : (k : ℕ) → k < 32 → at_place new_values new_codes (at + k) ≡ joined_at values codes bytes marks (at + k)
  pub below : (k : ℕ) → k < at → at_place new_values new_codes k ≡ at_place values codes k
  pub above : (k : ℕ) → at + 32 ≤ k → at_place new_values new_codes k ≡ at_place values codes k
