-- Ours: what `frames` and `cdmake` have in common. Of each sector of user data one list of bytes is made.
use Rattle.std.specs.Prelude.{◌≡◌, ◌+◌, ℕ, List, [], ◌∷◌}
use Rattle.dvd_loop.specs.Machine.{Step, Units, plain_units}
use Rattle.dvd_loop.specs.Machine.Step.{Write}
use Rattle.dvd_loop.specs.declared.ends.UnitKind.{UnitKind}
use Rattle.dvd_loop.specs.declared.ends.UnitKind.TheVariants.{Good}

-- bytes that this holds of are written
pub record IsMade (Holds : List ℕ → Type 0) (steps : List Step) (kind : UnitKind) : Type 0 where
  pub made : List ℕ
  pub holds : Holds made
  pub writes : steps ≡ Write made ∷ []
  pub good : kind ≡ Good

-- sector k has 2,048 bytes of the input and the number first + k; what is made of both is written
abbrev pub sectors_made : (ℕ → List ℕ → List ℕ → Type 0) → ℕ → ℕ → Units
sectors_made IsOf first sectors = plain_units sectors (λ k. 2048) (λ k sector. IsMade (IsOf (first + k) sector))
