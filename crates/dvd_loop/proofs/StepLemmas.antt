-- Steps that are done: all of them, some of them, and with other things after them.
use Rattle.std.proofs.Common.{◌≡◌, inl, inr, List, [], ◌∷◌, ◌++◌, ℕ, ap, append_assoc}
use Rattle.dvd_loop.specs.Machine.{Performs, IsTaken, IsUnit, Outcome, Step, Units, taking}
use Rattle.dvd_loop.specs.Machine.Step.{Write, Report}
use Rattle.dvd_loop.specs.UnitCommand.{reported, written}
use Rattle.dvd_loop.specs.declared.ends.UnitKind.{UnitKind}

-- so much was taken, written and reported, and then what came after
abbrev pub onto : List ℕ → List ℕ → List ℕ → Outcome → Outcome
onto taken out lines after = record { taken = taken ++ after.taken; out = out ++ after.out; lines = lines ++ after.lines; end = after.end }

-- all of one, and then all of the other, which ends it
abbrev pub and_then : Outcome → Outcome → Outcome
and_then loop line = record { taken = loop.taken ++ line.taken; out = loop.out ++ line.out; lines = loop.lines ++ line.lines; end = line.end }

-- all steps were taken, and then came what After says
pub does_all : (steps : List Step) (After : Outcome → Type 0) (after : Outcome) → After after
    → Performs steps After (onto [] (written steps) (reported steps) after)
does_all [] After after holds = holds
does_all (Write bytes ∷ steps) After after holds = inr (
  onto [] (written steps) (reported steps) after,
  does_all steps After after holds,
  ap (λ l. record after { out = l; lines = reported steps ++ after.lines }) (append_assoc bytes (written steps) after.out),
)
does_all (Report line ∷ steps) After after holds = inr (
  onto [] (written steps) (reported steps) after,
  does_all steps After after holds,
  ap (λ l. record after { out = written steps ++ after.out; lines = l }) (append_assoc line (reported steps) after.lines),
)

-- what holds of what comes after steps may be said otherwise
pub does_as : (steps : List Step) (A B : Outcome → Type 0) → ((after : Outcome) → A after → B after) → (outcome : Outcome) → Performs steps A outcome
    → Performs steps B outcome
does_as [] A B to outcome does = to outcome does
does_as (step ∷ steps) A B to outcome does = elim does [
  | inl fails ↦ inl fails
  | inr (after, does, is) ↦ inr (after, does_as steps A B to after does, is)
]

-- after the steps of one list come those of another
pub does_then : (steps more : List Step) (After : Outcome → Type 0) (outcome : Outcome) → Performs steps (Performs more After) outcome
    → Performs (steps ++ more) After outcome
does_then [] more After outcome does = does
does_then (step ∷ steps) more After outcome does = elim does [
  | inl fails ↦ inl fails
  | inr (after, does, is) ↦ inr (after, does_then steps more After after does, is)
]

-- a unit whose bytes come first is taken with its steps, and then comes what After says
pub taken_then : (units : Units) (before : List (List ℕ)) (After : List ℕ → List ℕ → UnitKind → Outcome → Type 0) (bytes own left : List ℕ) (steps : List Step) (kind : UnitKind) (outcome after : Outcome)
    → bytes ≡ own ++ left → IsUnit units before own steps kind → Performs steps (After own left kind) after → outcome ≡ taking own after
    → IsTaken units before After bytes outcome
taken_then units before After bytes own left steps kind outcome after prefix unit does takes =
    record { own = own; left = left; steps = steps; kind = kind; prefix = prefix; unit = unit; after = after; does = does; takes = takes }
