-- Worked values from outside the program, computed from the definitions.
use Rattle.std.specs.Prelude.{◌≡◌, ℕ, [], ◌∷◌, None, refl}
use Rattle.dvd_report.specs.Survey.{sum8, totals_of}
use Rattle.dvd_report.specs.declared.counts.Surveyed.{Surveyed}

-- a block with this number of PI error rows
abbrev with_pi : ℕ → Surveyed
with_pi pi = record { pi = pi; failed = 0; cause = None }

-- Sums of 280 at blocks 6 to 8, and of 281 at blocks 9 and 10; the first of these two is the peak.
eleven-blocks : totals_of (with_pi 40 ∷ with_pi 40 ∷ with_pi 40 ∷ with_pi 40 ∷ with_pi 40 ∷ with_pi 40 ∷ with_pi 40 ∷ with_pi 0 ∷ with_pi 40 ∷ with_pi 41 ∷ with_pi 40 ∷ [])
    ≡ record { blocks = 11; pi = 401; failed = 0; damaged = 0; peak = 281; peak_at = 9; over = 2 }
unfolding totals_of sum8
eleven-blocks = refl
