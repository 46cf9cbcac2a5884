-- What `mark` writes: the recording frames of a capture with the marks of their rows.
use Rattle.std.specs.Prelude.{◌≡◌, ℕ, zero, suc, ◌+◌, ◌-◌, ◌*◌, ◌^◌, List, [], ◌∷◌, ◌++◌, slice_range}
use Rattle.dvd_loop.specs.Machine.{Step, Units, plain_units}
use Rattle.dvd_loop.specs.Machine.Step.{Write}
use Rattle.dvd_loop.specs.declared.ends.UnitKind.{UnitKind}
use Rattle.dvd_loop.specs.declared.ends.UnitKind.TheVariants.{Good}
use Rattle.cap_map.specs.declared.span.Span.{Span}
use Rattle.cap_mark.specs.Marks.{row_mark_bytes}

-- row n of bytes the first of which has this number, and its marks
abbrev pub marked_row : List Span → ℕ → List ℕ → ℕ → List ℕ
marked_row spans start bytes n = slice_range bytes (182 * n) (182 * n + 182) ++ row_mark_bytes spans (start + 182 * n)

-- the first n rows, each with its marks
unfoldable pub marked_rows : List Span → ℕ → List ℕ → ℕ → List ℕ
marked_rows spans start bytes zero = []
marked_rows spans start bytes (suc n) = marked_rows spans start bytes n ++ marked_row spans start bytes n

-- the thirteen rows of recording frame k
abbrev pub marked_frame : List Span → ℕ → List ℕ → List ℕ
marked_frame spans k bytes = marked_rows spans (2366 * k) bytes 13

-- its rows are written with their marks
pub record IsMarked (spans : List Span) (k : ℕ) (own : List ℕ) (steps : List Step) (kind : UnitKind) : Type 0 where
  pub writes : steps ≡ Write (marked_frame spans k own) ∷ []
  pub good : kind ≡ Good

-- Unit k is recording frame k, 2,366 bytes. There are 2 ^ 32 - 1 units, so that the loop ends within a frame, none of
-- whose bytes may have come: that is the end of a capture.
abbrev pub mark_units : List Span → Units
mark_units spans = plain_units (2 ^ 32 - 1) (λ k. 2366) (IsMarked spans)
