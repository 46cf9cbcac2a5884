-- What is found of a captured block at each stage.
use Rattle.std.specs.Prelude.{ℕ, Bool, List, ⊤}
use Rattle.std.proofs.Props.{props}
use Rattle.std.specs.declared.option.Option.{Option}
use Rattle.coding.specs.TwoPass.{AgreesWith, IsTwoPass}
use Rattle.dvd_capture.specs.declared.stage.Stage.{Stage}
use Rattle.dvd_capture.specs.declared.stage.Stage.TheVariants.{Empty, Fetched, Refused, Fixed}

-- there is a received block
abbrev pub HasBlock : Stage → Type 0
HasBlock Empty = ⊥
HasBlock Fetched = ⊤
HasBlock Refused = ⊤
HasBlock Fixed = ⊤

-- there are row answers
abbrev pub HasAnswers : Stage → Type 0
HasAnswers Empty = ⊥
HasAnswers Fetched = ⊥
HasAnswers Refused = ⊤
HasAnswers Fixed = ⊤

-- no block has two-pass agreement with these rows and marks
abbrev pub HasNoTwoPass : List (List ℕ) → List (List Bool) → Type 0
HasNoTwoPass received marks = (block : List (List ℕ)) → IsTwoPass received marks block → ⊥

-- any two proofs that a block agrees are the same, so a `Work` can keep one
pub AgreesWith-prop : (answers : List (Option (List ℕ))) (block : List (List ℕ)) → IsProp (AgreesWith answers block)
AgreesWith-prop answers block = Prim.hlevel props
