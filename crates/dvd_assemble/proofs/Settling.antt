-- A frame joined to its home.
use Rattle.std.proofs.Common.{◌≡◌, ◌∙◌, refl, ap, ℕ, ◌/◌, ◌%◌, List, get_or, set, Option, None, Some}
use Rattle.std.specs.Option.{option_map, option_map_or}
use Rattle.dvd_layout.specs.declared.layout.Layout.{Layout}
use Rattle.dvd_merge.specs.Join.{Table, unseen}
use Rattle.dvd_assemble.specs.Assembled.{settled, with_frame}
use Rattle.dvd_assemble.specs.Frames.{Frame}
use Rattle.dvd_assemble.specs.Home.{block_and_frame, home}

-- the blocks by the home
abbrev settled_by : List Table → Frame → Option ℕ → List Table
settled_by tables frame place = option_map_or (λ n. set tables (n / 16) (with_frame (n % 16) frame (get_or tables (n / 16) unseen))) place tables

-- what a frame changes depends on its home alone
by_home : (layout : Layout) (tables : List Table) (frame : Frame) → settled layout tables frame ≡ settled_by tables frame (home layout frame)
unfolding settled
by_home layout tables frame = refl

-- a frame without a home changes no block
none_by : (tables : List Table) (frame : Frame) (place : Option ℕ) → option_map block_and_frame place ≡ None → settled_by tables frame place ≡ tables
none_by tables frame None is = refl
none_by tables frame (Some n) is = absurd (let other : Some (n / 16, n % 16) ≡ None = is in cc)

-- so for each frame whose home is none
pub settled_none : (layout : Layout) (tables : List Table) (frame : Frame) → option_map block_and_frame (home layout frame) ≡ None
    → settled layout tables frame ≡ tables
settled_none layout tables frame is = by_home layout tables frame ∙ none_by tables frame (home layout frame) is

-- a case for no block and frame, and one for these two
pairs : {A : Type 0} → Option (ℕ × ℕ) → A → (ℕ → ℕ → A) → A
pairs None none some = none
pairs (Some place) none some = some place.0 place.1

-- a frame at home in block k, as its frame f, changes that block alone
some_by : (tables : List Table) (frame : Frame) (k f : ℕ) (place : Option ℕ) → option_map block_and_frame place ≡ Some (k, f)
    → settled_by tables frame place ≡ set tables k (with_frame f frame (get_or tables k unseen))
unfolding pairs
some_by tables frame k f None is = absurd (let other : None ≡ Some (k, f) = is in cc)
some_by tables frame k f (Some n) is =
    ap (λ (place : Option (ℕ × ℕ)). pairs place tables (λ b g. set tables b (with_frame g frame (get_or tables b unseen)))) is

-- so for each frame whose home is there
pub settled_some : (layout : Layout) (tables : List Table) (frame : Frame) (k f : ℕ) → option_map block_and_frame (home layout frame) ≡ Some (k, f)
    → settled layout tables frame ≡ set tables k (with_frame f frame (get_or tables k unseen))
settled_some layout tables frame k f is = by_home layout tables frame ∙ some_by tables frame k f (home layout frame) is
